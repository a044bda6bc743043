-- The grammar of the journal's entries: which bytes are the text of which entry.
use Rattle.std.specs.Prelude.{◌≡◌, ℕ, ◌^◌, Bool, true, false, not, ◌&&◌, ◌||◌, ◌==◌, nat_lt, nat_le, List, [], ◌∷◌, ◌++◌, length}
use Rattle.fs_model.specs.PathForm.{is_path, is_key}
use Rattle.fs_model.specs.declared.reply.Stored.{Stored}
use Rattle.journal_entry.specs.declared.entry.Entry.{Entry}
use Rattle.journal_entry.specs.Fields.{four_bytes, eight_bytes, path_field, key_field, workers_field, flag_byte, stored_byte, plan_kind_byte, node_byte, is_file_id, is_plan, is_plan_or_none, is_plan_of, is_next, is_worker, are_workers, is_no, is_move, is_root}

-- ---- the bytes of an entry

-- the first byte of an entry's body
abbrev pub kind_byte : Entry → ℕ
kind_byte (Entry.Mkdir p) = 1
kind_byte (Entry.Create id p) = 2
kind_byte (Entry.Done id len stored plan) = 3
kind_byte (Entry.Remove p plan) = 4
kind_byte (Entry.Move p q plan) = 5
kind_byte (Entry.Pin p on) = 6
kind_byte (Entry.Want id) = 7
kind_byte (Entry.PlanEnd plan) = 8
kind_byte (Entry.Persisted id plan) = 9
kind_byte (Entry.Mount p store key plan) = 10
kind_byte (Entry.Unmount p) = 11
kind_byte (Entry.Seen worker) = 12
kind_byte (Entry.Lost workers) = 13
kind_byte (Entry.Loaded id p len) = 14
kind_byte (Entry.Next id plan) = 15
kind_byte (Entry.Node p dir id len done stored pinned) = 16
kind_byte (Entry.Pending plan kind p q) = 17
kind_byte (Entry.Leaf plan p) = 18

-- the bytes of its fields, in order
abbrev pub fields : Entry → List ℕ
fields (Entry.Mkdir p) = path_field p
fields (Entry.Create id p) = eight_bytes id ++ path_field p
fields (Entry.Done id len stored plan) = eight_bytes id ++ eight_bytes len ++ (stored_byte stored ∷ []) ++ eight_bytes plan
fields (Entry.Remove p plan) = path_field p ++ eight_bytes plan
fields (Entry.Move p q plan) = path_field p ++ path_field q ++ eight_bytes plan
fields (Entry.Pin p on) = path_field p ++ flag_byte on ∷ []
fields (Entry.Want id) = eight_bytes id
fields (Entry.PlanEnd plan) = eight_bytes plan
fields (Entry.Persisted id plan) = eight_bytes id ++ eight_bytes plan
fields (Entry.Mount p store key plan) = path_field p ++ four_bytes store ++ key_field key ++ eight_bytes plan
fields (Entry.Unmount p) = path_field p
fields (Entry.Seen worker) = four_bytes worker
fields (Entry.Lost workers) = workers_field workers
fields (Entry.Loaded id p len) = eight_bytes id ++ path_field p ++ eight_bytes len
fields (Entry.Next id plan) = eight_bytes id ++ eight_bytes plan
fields (Entry.Node p dir id len done stored pinned) =
    path_field p ++ (node_byte dir ∷ []) ++ eight_bytes id ++ eight_bytes len ++ (flag_byte done ∷ []) ++ (stored_byte stored ∷ []) ++ flag_byte pinned ∷ []
fields (Entry.Pending plan kind p q) = eight_bytes plan ++ (plan_kind_byte kind ∷ []) ++ path_field p ++ path_field q
fields (Entry.Leaf plan p) = eight_bytes plan ++ path_field p

-- the body: the kind byte and the fields, and nothing more
abbrev pub body : Entry → List ℕ
body e = kind_byte e ∷ fields e

-- the text: the length of the body in four bytes, and the body
abbrev pub entry_text : Entry → List ℕ
entry_text e = four_bytes (length (body e)) ++ body e

-- ---- which entries have a text

-- what the types of the fields hold: paths and keys in form, lengths below 2 ^ 64, stores below 2 ^ 32
abbrev pub has_form : Entry → Bool
has_form (Entry.Mkdir p) = is_path p
has_form (Entry.Create id p) = is_path p
has_form (Entry.Done id len stored plan) = nat_lt len (2 ^ 64)
has_form (Entry.Remove p plan) = is_path p
has_form (Entry.Move p q plan) = is_path p && is_path q
has_form (Entry.Pin p on) = is_path p
has_form (Entry.Want id) = true
has_form (Entry.PlanEnd plan) = true
has_form (Entry.Persisted id plan) = true
has_form (Entry.Mount p store key plan) = is_path p && nat_lt store (2 ^ 32) && is_key key
has_form (Entry.Unmount p) = is_path p
has_form (Entry.Seen worker) = true
has_form (Entry.Lost workers) = true
has_form (Entry.Loaded id p len) = is_path p && nat_lt len (2 ^ 64)
has_form (Entry.Next id plan) = true
has_form (Entry.Node p dir id len done stored pinned) = is_path p && nat_lt len (2 ^ 64)
has_form (Entry.Pending plan kind p q) = is_path p && is_path q
has_form (Entry.Leaf plan p) = is_path p

-- what a checkpoint keeps of a directory, or of a file; a file that isn't done has no bytes yet
abbrev pub is_node : Bool → ℕ → ℕ → Bool → Stored → Bool → Bool
is_node true id len done stored pinned = id == 0 && len == 0 && done && is_no stored && not pinned
is_node false id len done stored pinned = is_file_id id && (done || (len == 0 && is_no stored))

-- the numbers and flags are within the bounds of the format
abbrev pub has_bounds : Entry → Bool
has_bounds (Entry.Mkdir p) = true
has_bounds (Entry.Create id p) = is_file_id id
has_bounds (Entry.Done id len stored plan) = is_file_id id && is_plan_of stored plan
has_bounds (Entry.Remove p plan) = is_plan_or_none plan
has_bounds (Entry.Move p q plan) = is_plan_or_none plan
has_bounds (Entry.Pin p on) = true
has_bounds (Entry.Want id) = is_file_id id
has_bounds (Entry.PlanEnd plan) = is_plan_or_none plan
has_bounds (Entry.Persisted id plan) = is_file_id id && is_plan plan
has_bounds (Entry.Mount p store key plan) = is_plan_or_none plan
has_bounds (Entry.Unmount p) = true
has_bounds (Entry.Seen worker) = is_worker worker
has_bounds (Entry.Lost workers) = are_workers workers
has_bounds (Entry.Loaded id p len) = is_file_id id
has_bounds (Entry.Next id plan) = is_next id && is_next plan
has_bounds (Entry.Node p dir id len done stored pinned) = is_node dir id len done stored pinned
has_bounds (Entry.Pending plan kind p q) = is_plan plan && (is_move kind || is_root q)
has_bounds (Entry.Leaf plan p) = is_plan plan

-- what a caller has to see to: the bounds, and a body of at most 8,248 bytes
abbrev pub fits : Entry → Bool
fits e = has_bounds e && nat_le (length (body e)) 8248

-- an entry of the journal
abbrev pub is_entry : Entry → Bool
is_entry e = has_form e && fits e

-- these bytes are the text of this entry
pub record IsEntryText (text : List ℕ) (e : Entry) : Type 0 where
  pub entry : is_entry e ≡ true
  pub bytes : text ≡ entry_text e
