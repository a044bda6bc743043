-- The body of an entry is as long as the machine counts it.
use Rattle.std.proofs.Common.{◌≡◌, ℕ, suc, ◌+◌, ◌*◌, ◌≤◌, true, leb, ◌&&◌, List, [], ◌∷◌, ◌++◌, length, refl, sym, ap, ◌∙◌, append_assoc, arith, length-append}
use Rattle.std.specs.List.{flat_map}
use Rattle.std.proofs.lemmas.Bool.{leb-true}
use Rattle.fs_model.specs.PathLength.{path_len}
use Rattle.fs_model.specs.Changes.{key_len, entry_len}
use Rattle.fs_model.specs.declared.change.Change.{Change}
use Rattle.fs_model.proofs.TextLengths.{path_len-path_text, key_len-key_text}
use Rattle.journal_entry.specs.declared.entry.Entry.{Entry}
use Rattle.journal_entry.specs.Fields.{four_bytes, eight_bytes, path_field, key_field, workers_field, flag_byte, stored_byte, node_byte}
use Rattle.journal_entry.specs.EntryText.{kind_byte, body, fields, entry_text, has_bounds, fits}
use Rattle.journal_entry.specs.Lengths.{body_len}
use Rattle.journal_entry.specs.Meaning.{entry_of_change}
use Rattle.journal_entry.proofs.Parts.{second_true}

length-path_field : (p : List (List ℕ)) → length (path_field p) ≡ 2 + path_len p
length-path_field p = omega (arith, path_len-path_text p)

length-key_field : (k : List (List ℕ)) → length (key_field k) ≡ 2 + key_len k
length-key_field k = omega (arith, key_len-key_text k)

length-four_each : (ws : List ℕ) → length (flat_map four_bytes ws) ≡ 4 * length ws
length-four_each [] = refl
length-four_each (w ∷ ws) = omega (arith, length-four_each ws)

length-workers_field : (ws : List ℕ) → length (workers_field ws) ≡ 2 + 4 * length ws
length-workers_field ws = omega (arith, length-four_each ws)

-- a path before, behind or between fields
path_first : (p : List (List ℕ)) (more : List ℕ) → length (path_field p ++ more) ≡ 2 + path_len p + length more
path_first p more = omega (arith, length-append (path_field p) more, length-path_field p)

pub length-body : (e : Entry) → length (body e) ≡ body_len e
length-body (Entry.Mkdir p) = ap suc (length-path_field p) ∙ omega arith
length-body (Entry.Create id p) = omega (arith, length-path_field p)
length-body (Entry.Done id len stored plan) = refl
length-body (Entry.Remove p plan) = omega (arith, path_first p (eight_bytes plan))
length-body (Entry.Move p q plan) = omega (arith, length-append (path_field p ++ path_field q) (eight_bytes plan), path_first p (path_field q), length-path_field q)
length-body (Entry.Pin p on) = omega (arith, path_first p (flag_byte on ∷ []))
length-body (Entry.Want id) = refl
length-body (Entry.PlanEnd plan) = refl
length-body (Entry.Persisted id plan) = refl
length-body (Entry.Mount p store key plan) =
    omega (arith, length-append (path_field p ++ four_bytes store ++ key_field key) (eight_bytes plan), length-append (path_field p ++ four_bytes store) (key_field key), path_first p (four_bytes store), length-key_field key)
length-body (Entry.Unmount p) = omega (arith, length-path_field p)
length-body (Entry.Seen worker) = refl
length-body (Entry.Lost workers) = omega (arith, length-workers_field workers)
length-body (Entry.Loaded id p len) = omega (arith, path_first p (eight_bytes len))
length-body (Entry.Next id plan) = refl
length-body (Entry.Node p dir id len done stored pinned) =
    omega (
      arith,
      length-append (path_field p ++ (node_byte dir ∷ []) ++ eight_bytes id ++ eight_bytes len ++ (flag_byte done ∷ []) ++ (stored_byte stored ∷ [])) (flag_byte pinned ∷ []),
      length-append (path_field p ++ (node_byte dir ∷ []) ++ eight_bytes id ++ eight_bytes len ++ (flag_byte done ∷ [])) (stored_byte stored ∷ []),
      length-append (path_field p ++ (node_byte dir ∷ []) ++ eight_bytes id ++ eight_bytes len) (flag_byte done ∷ []),
      length-append (path_field p ++ (node_byte dir ∷ []) ++ eight_bytes id) (eight_bytes len),
      length-append (path_field p ++ (node_byte dir ∷ [])) (eight_bytes id),
      path_first p (node_byte dir ∷ []),
    )
length-body (Entry.Pending plan kind p q) = omega (arith, path_first p (path_field q), length-path_field q)
length-body (Entry.Leaf plan p) = omega (arith, length-path_field p)

pub length-entry_text : (e : Entry) → length (entry_text e) ≡ 4 + body_len e
length-entry_text e = omega (arith, length-body e)

-- the machine counts these lengths for its changes
pub length-change : (c : Change) → length (entry_text (entry_of_change c)) ≡ entry_len c
length-change (Change.Mkdir p) = omega (arith, length-entry_text (Entry.Mkdir p))
length-change (Change.Create id p) = omega (arith, length-entry_text (Entry.Create id p))
length-change (Change.Done id len stored plan) = refl
length-change (Change.Remove p plan) = omega (arith, length-entry_text (Entry.Remove p plan))
length-change (Change.Move p q plan) = omega (arith, length-entry_text (Entry.Move p q plan))
length-change (Change.Pin p on) = omega (arith, length-entry_text (Entry.Pin p on))
length-change (Change.Want id) = refl
length-change (Change.PlanEnd plan) = refl
length-change (Change.Persisted id plan) = refl
length-change (Change.Mount p store key plan) = omega (arith, length-entry_text (Entry.Mount p store key plan))
length-change (Change.Unmount p) = omega (arith, length-entry_text (Entry.Unmount p))
length-change (Change.Seen worker) = refl
length-change (Change.Lost workers) = omega (arith, length-entry_text (Entry.Lost workers))
length-change (Change.Loaded id p len) = omega (arith, length-entry_text (Entry.Loaded id p len))

-- a body of an entry that fits is short
pub short_body : (e : Entry) → fits e ≡ true → length (body e) ≤ 8248
short_body e h = leb-true (length (body e)) 8248 (second_true (has_bounds e) (leb (length (body e)) 8248) h)

pub short_len : (e : Entry) → fits e ≡ true → body_len e ≤ 8248
short_len e h = omega (arith, short_body e h, length-body e)

-- the test of an entry within its bounds
pub fits_by_len : (e : Entry) (n : ℕ) → has_bounds e ≡ true → n ≡ body_len e → leb n 8248 ≡ fits e
fits_by_len e n b h = ap (λ k. leb k 8248) (h ∙ sym (length-body e)) ∙ sym (ap (λ t. t && leb (length (body e)) 8248) b)

-- the length, the kind byte and the fields, one after the other, are the text
pub in_order : (out : List ℕ) (e : Entry) (n kind : ℕ) → n ≡ body_len e → kind ≡ kind_byte e → ((out ++ four_bytes n) ++ kind ∷ []) ++ fields e ≡ out ++ entry_text e
in_order out e n kind h k =
    append_assoc (out ++ four_bytes n) (kind ∷ []) (fields e)
    ∙ append_assoc out (four_bytes n) (kind ∷ fields e)
    ∙ ap (λ (m : ℕ). out ++ (four_bytes m ++ kind ∷ fields e)) (h ∙ sym (length-body e))
    ∙ ap (λ (m : ℕ). out ++ (four_bytes (length (body e)) ++ m ∷ fields e)) k
