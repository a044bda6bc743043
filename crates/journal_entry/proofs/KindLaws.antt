-- What is read of a body is the entry of that body, kind by kind.
use Rattle.std.proofs.Common.{◌≡◌, ℕ, ◌^◌, ◌<◌, ◌≤◌, Bool, true, false, cond, not, ltb, leb, eqb, ◌&&◌, ◌||◌, List, [], ◌∷◌, Option, Some, refl, sym, ap, subst, ◌∙◌, arith}
use Rattle.std.proofs.lemmas.Bool.{eqb-true, ltb-true, lt-ltb, leb-true}
use Rattle.fs_model.specs.PathForm.{is_path, is_key}
use Rattle.fs_model.specs.declared.reply.Stored.{Stored}
use Rattle.journal_entry.specs.declared.entry.Entry.{Entry}
use Rattle.journal_entry.specs.Fields.{is_file_id, is_plan, is_plan_or_none, is_plan_of, is_next, is_worker, is_no, is_move, is_root}
use Rattle.journal_entry.specs.EntryText.{kind_byte, fields, body, has_form, has_bounds, is_node}
use Rattle.journal_entry.specs.Reading.{Reader, whole, mkdir_of, create_of, done_of, remove_of, move_of, pin_of, want_of, plan_end_of, persisted_of, mount_of, unmount_of, seen_of, lost_of, loaded_of, next_of, row_of, pending_of, leaf_of, Kind, changes, rows, read_by, change_of, checkpoint_of, entry_of}
use Rattle.journal_entry.proofs.Parts.{IsBytes, IsBytes-rest, first_true, second_true, both, Reads, then_reads, tested_reads, whole_found, whole_again}
use Rattle.journal_entry.proofs.FieldLaws.{number64, len_reads, store_reads, id_reads, plan_reads, plan_or_none_reads, next_reads, worker_reads, flag_reads, node_reads, stored_reads, plan_kind_reads, path_reads, key_reads, workers_reads}

-- an entry of this kind with these fields
pub record IsOfKind (kind : ℕ) (bytes : List ℕ) (e : Entry) : Type 0 where
  pub kind_is : kind ≡ kind_byte e
  pub bytes_are : bytes ≡ fields e
  pub form : has_form e ≡ true
  pub bounds : has_bounds e ≡ true

-- a reader of the fields of this kind is right about each entry that it reads
abbrev pub IsRight : ℕ → (List ℕ → Option Entry) → Type 0
IsRight kind read = (bytes : List ℕ) (e : Entry) → IsBytes bytes → read bytes ≡ Some e → IsOfKind kind bytes e

-- it is where what it makes of each value is of this kind
pub kind_right : {X : Type 0} {t : X → List ℕ} {I : X → Type 0} {r : Reader X} (kind : ℕ) (make : X → Entry) → Reads X t I r → ((x : X) → I x → IsOfKind kind (t x) (make x)) → IsRight kind (whole make r)
kind_right {t = t} kind make p of bytes e fits h =
    let a = whole_found make p bytes e fits h in
    subst (λ (f : Entry). IsOfKind kind bytes f) a.3 (subst (λ (b : List ℕ). IsOfKind kind b (make a.0)) (sym a.1) (of a.0 a.2))

-- ---- one bound

file_id_below : (n : ℕ) → is_file_id n ≡ true → n < 2 ^ 64
file_id_below n h = let lt : n < 2 ^ 63 = ltb-true n (2 ^ 63) (second_true (ltb 0 n) (ltb n (2 ^ 63)) h) in omega arith

plan_below : (n : ℕ) → is_plan n ≡ true → n < 2 ^ 64
plan_below n h = let lt : n < 2 ^ 63 = ltb-true n (2 ^ 63) (second_true (ltb 0 n) (ltb n (2 ^ 63)) h) in omega arith

plan_or_none_below : (n : ℕ) → is_plan_or_none n ≡ true → n < 2 ^ 64
plan_or_none_below n h = let lt : n < 2 ^ 63 = ltb-true n (2 ^ 63) h in omega arith

zero_below : (n : ℕ) → eqb n 0 ≡ true → n < 2 ^ 64
zero_below n h = omega (arith, eqb-true n 0 h)

plan_of_below : (stored : Stored) (n : ℕ) → is_plan_of stored n ≡ true → n < 2 ^ 64
plan_of_below Stored.No n h = zero_below n h
plan_of_below Stored.Wanted n h = zero_below n h
plan_of_below Stored.Yes n h = plan_below n h

next_below : (n : ℕ) → is_next n ≡ true → n < 2 ^ 64
next_below n h = let le : n ≤ 2 ^ 63 = leb-true n (2 ^ 63) (second_true (ltb 0 n) (leb n (2 ^ 63)) h) in omega arith

worker_below : (n : ℕ) → is_worker n ≡ true → n < 2 ^ 32
worker_below n h = let le : n ≤ 64 = leb-true n 64 (second_true (ltb 0 n) (leb n 64) h) in omega arith

node_below : (dir : Bool) (id len : ℕ) (done : Bool) (stored : Stored) (pinned : Bool) → is_node dir id len done stored pinned ≡ true → id < 2 ^ 64
node_below true id len done stored pinned h =
    zero_below id (first_true (eqb id 0) (eqb len 0) (first_true _ done (first_true _ (is_no stored) (first_true _ (not pinned) h))))
node_below false id len done stored pinned h = file_id_below id (first_true (is_file_id id) _ h)

-- ---- the readers of some values, one after the other

mkdir_right : IsRight 1 mkdir_of
unfolding mkdir_of
mkdir_right = kind_right 1 (λ p. Entry.Mkdir p) path_reads (λ p h. record { kind_is = refl; bytes_are = refl; form = h; bounds = refl })

create_right : IsRight 2 create_of
unfolding create_of
create_right = kind_right 2 (λ x. Entry.Create x.0 x.1) (then_reads id_reads path_reads) (λ x h. record { kind_is = refl; bytes_are = refl; form = h.1; bounds = h.0.1 })

done_right : IsRight 3 done_of
unfolding done_of
done_right = kind_right 3 (λ x. Entry.Done x.0.0.0 x.0.0.1 x.0.1 x.1) (tested_reads (λ x. is_plan_of x.0.1 x.1) (then_reads (then_reads (then_reads id_reads len_reads) stored_reads) number64))
    (λ x h. record { kind_is = refl; bytes_are = refl; form = lt-ltb x.0.0.1 (2 ^ 64) h.0.0.0.1; bounds = both (is_file_id x.0.0.0) (is_plan_of x.0.1 x.1) h.0.0.0.0.1 h.1 })

remove_right : IsRight 4 remove_of
unfolding remove_of
remove_right = kind_right 4 (λ x. Entry.Remove x.0 x.1) (then_reads path_reads plan_or_none_reads) (λ x h. record { kind_is = refl; bytes_are = refl; form = h.0; bounds = h.1.1 })

move_right : IsRight 5 move_of
unfolding move_of
move_right = kind_right 5 (λ x. Entry.Move x.0.0 x.0.1 x.1) (then_reads (then_reads path_reads path_reads) plan_or_none_reads)
    (λ x h. record { kind_is = refl; bytes_are = refl; form = both (is_path x.0.0) (is_path x.0.1) h.0.0 h.0.1; bounds = h.1.1 })

pin_right : IsRight 6 pin_of
unfolding pin_of
pin_right = kind_right 6 (λ x. Entry.Pin x.0 x.1) (then_reads path_reads flag_reads) (λ x h. record { kind_is = refl; bytes_are = refl; form = h.0; bounds = refl })

want_right : IsRight 7 want_of
unfolding want_of
want_right = kind_right 7 (λ id. Entry.Want id) id_reads (λ x h. record { kind_is = refl; bytes_are = refl; form = refl; bounds = h.1 })

plan_end_right : IsRight 8 plan_end_of
unfolding plan_end_of
plan_end_right = kind_right 8 (λ plan. Entry.PlanEnd plan) plan_or_none_reads (λ x h. record { kind_is = refl; bytes_are = refl; form = refl; bounds = h.1 })

persisted_right : IsRight 9 persisted_of
unfolding persisted_of
persisted_right = kind_right 9 (λ x. Entry.Persisted x.0 x.1) (then_reads id_reads plan_reads)
    (λ x h. record { kind_is = refl; bytes_are = refl; form = refl; bounds = both (is_file_id x.0) (is_plan x.1) h.0.1 h.1.1 })

mount_right : IsRight 10 mount_of
unfolding mount_of
mount_right = kind_right 10 (λ x. Entry.Mount x.0.0.0 x.0.0.1 x.0.1 x.1) (then_reads (then_reads (then_reads path_reads store_reads) key_reads) plan_or_none_reads)
    (λ x h. record {
      kind_is = refl;
      bytes_are = refl;
      form = both (is_path x.0.0.0 && ltb x.0.0.1 (2 ^ 32)) (is_key x.0.1) (both (is_path x.0.0.0) (ltb x.0.0.1 (2 ^ 32)) h.0.0.0 (lt-ltb x.0.0.1 (2 ^ 32) h.0.0.1)) h.0.1;
      bounds = h.1.1;
    })

unmount_right : IsRight 11 unmount_of
unfolding unmount_of
unmount_right = kind_right 11 (λ p. Entry.Unmount p) path_reads (λ p h. record { kind_is = refl; bytes_are = refl; form = h; bounds = refl })

seen_right : IsRight 12 seen_of
unfolding seen_of
seen_right = kind_right 12 (λ w. Entry.Seen w) worker_reads (λ x h. record { kind_is = refl; bytes_are = refl; form = refl; bounds = h.1 })

lost_right : IsRight 13 lost_of
unfolding lost_of
lost_right = kind_right 13 (λ ws. Entry.Lost ws) workers_reads (λ x h. record { kind_is = refl; bytes_are = refl; form = refl; bounds = h })

loaded_right : IsRight 14 loaded_of
unfolding loaded_of
loaded_right = kind_right 14 (λ x. Entry.Loaded x.0.0 x.0.1 x.1) (then_reads (then_reads id_reads path_reads) len_reads)
    (λ x h. record { kind_is = refl; bytes_are = refl; form = both (is_path x.0.1) (ltb x.1 (2 ^ 64)) h.0.1 (lt-ltb x.1 (2 ^ 64) h.1); bounds = h.0.0.1 })

next_right : IsRight 15 next_of
unfolding next_of
next_right = kind_right 15 (λ x. Entry.Next x.0 x.1) (then_reads next_reads next_reads)
    (λ x h. record { kind_is = refl; bytes_are = refl; form = refl; bounds = both (is_next x.0) (is_next x.1) h.0.1 h.1.1 })

row_right : IsRight 16 row_of
unfolding row_of
row_right = kind_right 16 (λ x. Entry.Node x.0.0.0.0.0.0 x.0.0.0.0.0.1 x.0.0.0.0.1 x.0.0.0.1 x.0.0.1 x.0.1 x.1)
    (tested_reads (λ x. is_node x.0.0.0.0.0.1 x.0.0.0.0.1 x.0.0.0.1 x.0.0.1 x.0.1 x.1)
    (then_reads (then_reads (then_reads (then_reads (then_reads (then_reads path_reads node_reads) number64) len_reads) flag_reads) stored_reads) flag_reads))
    (λ x h. record {
      kind_is = refl;
      bytes_are = refl;
      form = both (is_path x.0.0.0.0.0.0) (ltb x.0.0.0.1 (2 ^ 64)) h.0.0.0.0.0.0.0 (lt-ltb x.0.0.0.1 (2 ^ 64) h.0.0.0.0.1);
      bounds = h.1;
    })

pending_right : IsRight 17 pending_of
unfolding pending_of
pending_right = kind_right 17 (λ x. Entry.Pending x.0.0.0 x.0.0.1 x.0.1 x.1) (tested_reads (λ x. is_move x.0.0.1 || is_root x.1) (then_reads (then_reads (then_reads plan_reads plan_kind_reads) path_reads) path_reads))
    (λ x h. record {
      kind_is = refl;
      bytes_are = refl;
      form = both (is_path x.0.1) (is_path x.1) h.0.0.1 h.0.1;
      bounds = both (is_plan x.0.0.0) (is_move x.0.0.1 || is_root x.1) h.0.0.0.0.1 h.1;
    })

leaf_right : IsRight 18 leaf_of
unfolding leaf_of
leaf_right = kind_right 18 (λ x. Entry.Leaf x.0 x.1) (then_reads plan_reads path_reads) (λ x h. record { kind_is = refl; bytes_are = refl; form = h.1; bounds = h.0.1 })

-- ---- all kinds

-- each of these readers is right
abbrev AreRight : List Kind → Type 0
AreRight [] = Unit {0}
AreRight (k ∷ ks) = IsRight k.0 k.1 × AreRight ks

by_right : (ks : List Kind) → AreRight ks → (kind : ℕ) → IsRight kind (read_by ks kind)
by_right [] right kind bytes e fits h = absurd cc
by_right (k ∷ ks) right kind bytes e fits h = by_kind (eqb kind k.0) (eqb-true kind k.0) (by_right ks right.1 kind bytes e fits) h
  where
    by_kind : (t : Bool) → (t ≡ true → kind ≡ k.0) → (read_by ks kind bytes ≡ Some e → IsOfKind kind bytes e) → cond t (k.1 bytes) (read_by ks kind bytes) ≡ Some e → IsOfKind kind bytes e
    by_kind true is others g = subst (λ n. IsOfKind n bytes e) (sym (is refl)) (right.0 bytes e fits g)
    by_kind false is others g = others g

changes_right : AreRight changes
changes_right = (mkdir_right, (create_right, (done_right, (remove_right, (move_right, (pin_right, (want_right, (plan_end_right, (persisted_right, (mount_right, (unmount_right, (seen_right, (lost_right, (loaded_right, tt))))))))))))))

rows_right : AreRight rows
rows_right = (next_right, (row_right, (pending_right, (leaf_right, tt))))

-- what is read of a body is the entry of that body
pub entry_found : (bytes : List ℕ) (e : Entry) → IsBytes bytes → entry_of bytes ≡ Some e → (bytes ≡ body e) × (has_form e ≡ true) × (has_bounds e ≡ true)
unfolding entry_of change_of checkpoint_of
entry_found [] e fits h = absurd cc
entry_found (kind ∷ bytes) e fits h = by_kind (ltb kind 15) h
  where
    done : IsOfKind kind bytes e → (kind ∷ bytes ≡ body e) × (has_form e ≡ true) × (has_bounds e ≡ true)
    done k = (ap (λ n. n ∷ bytes) k.kind_is ∙ ap (λ (b : List ℕ). kind_byte e ∷ b) k.bytes_are, k.form, k.bounds)

    by_kind : (t : Bool) → cond t (read_by changes kind bytes) (read_by rows kind bytes) ≡ Some e → (kind ∷ bytes ≡ body e) × (has_form e ≡ true) × (has_bounds e ≡ true)
    by_kind true g = done (by_right changes changes_right kind bytes e (IsBytes-rest kind bytes fits) g)
    by_kind false g = done (by_right rows rows_right kind bytes e (IsBytes-rest kind bytes fits) g)

-- ---- the other way: the body of an entry is read as it

pub entry_again : (e : Entry) → has_form e ≡ true → has_bounds e ≡ true → entry_of (body e) ≡ Some e
unfolding entry_of change_of checkpoint_of mkdir_of create_of done_of remove_of move_of pin_of want_of plan_end_of persisted_of mount_of unmount_of seen_of lost_of loaded_of next_of row_of pending_of leaf_of
entry_again (Entry.Mkdir p) f b = whole_again (λ p. Entry.Mkdir p) path_reads p f
entry_again (Entry.Create id p) f b = whole_again (λ x. Entry.Create x.0 x.1) (then_reads id_reads path_reads) (id, p) ((file_id_below id b, b), f)
entry_again (Entry.Done id len stored plan) f b =
    let i = first_true (is_file_id id) (is_plan_of stored plan) b in
    let p = second_true (is_file_id id) (is_plan_of stored plan) b in
    whole_again (λ x. Entry.Done x.0.0.0 x.0.0.1 x.0.1 x.1) (tested_reads (λ x. is_plan_of x.0.1 x.1) (then_reads (then_reads (then_reads id_reads len_reads) stored_reads) number64)) (((id, len), stored), plan)
    (((((file_id_below id i, i), ltb-true len (2 ^ 64) f), tt), plan_of_below stored plan p), p)
entry_again (Entry.Remove p plan) f b = whole_again (λ x. Entry.Remove x.0 x.1) (then_reads path_reads plan_or_none_reads) (p, plan) (f, (plan_or_none_below plan b, b))
entry_again (Entry.Move p q plan) f b =
    whole_again (λ x. Entry.Move x.0.0 x.0.1 x.1) (then_reads (then_reads path_reads path_reads) plan_or_none_reads) ((p, q), plan)
    ((first_true (is_path p) (is_path q) f, second_true (is_path p) (is_path q) f), (plan_or_none_below plan b, b))
entry_again (Entry.Pin p on) f b = whole_again (λ x. Entry.Pin x.0 x.1) (then_reads path_reads flag_reads) (p, on) (f, tt)
entry_again (Entry.Want id) f b = whole_again (λ id. Entry.Want id) id_reads id (file_id_below id b, b)
entry_again (Entry.PlanEnd plan) f b = whole_again (λ plan. Entry.PlanEnd plan) plan_or_none_reads plan (plan_or_none_below plan b, b)
entry_again (Entry.Persisted id plan) f b =
    let i = first_true (is_file_id id) (is_plan plan) b in
    let p = second_true (is_file_id id) (is_plan plan) b in
    whole_again (λ x. Entry.Persisted x.0 x.1) (then_reads id_reads plan_reads) (id, plan) ((file_id_below id i, i), (plan_below plan p, p))
entry_again (Entry.Mount p store key plan) f b =
    let front = first_true (is_path p && ltb store (2 ^ 32)) (is_key key) f in
    whole_again (λ x. Entry.Mount x.0.0.0 x.0.0.1 x.0.1 x.1) (then_reads (then_reads (then_reads path_reads store_reads) key_reads) plan_or_none_reads) (((p, store), key), plan)
    (((first_true (is_path p) (ltb store (2 ^ 32)) front, ltb-true store (2 ^ 32) (second_true (is_path p) (ltb store (2 ^ 32)) front)), second_true (is_path p && ltb store (2 ^ 32)) (is_key key) f), (plan_or_none_below plan b, b))
entry_again (Entry.Unmount p) f b = whole_again (λ p. Entry.Unmount p) path_reads p f
entry_again (Entry.Seen worker) f b = whole_again (λ w. Entry.Seen w) worker_reads worker (worker_below worker b, b)
entry_again (Entry.Lost workers) f b = whole_again (λ ws. Entry.Lost ws) workers_reads workers b
entry_again (Entry.Loaded id p len) f b =
    whole_again (λ x. Entry.Loaded x.0.0 x.0.1 x.1) (then_reads (then_reads id_reads path_reads) len_reads) ((id, p), len)
    (((file_id_below id b, b), first_true (is_path p) (ltb len (2 ^ 64)) f), ltb-true len (2 ^ 64) (second_true (is_path p) (ltb len (2 ^ 64)) f))
entry_again (Entry.Next id plan) f b =
    let i = first_true (is_next id) (is_next plan) b in
    let p = second_true (is_next id) (is_next plan) b in
    whole_again (λ x. Entry.Next x.0 x.1) (then_reads next_reads next_reads) (id, plan) ((next_below id i, i), (next_below plan p, p))
entry_again (Entry.Node p dir id len done stored pinned) f b =
    whole_again (λ x. Entry.Node x.0.0.0.0.0.0 x.0.0.0.0.0.1 x.0.0.0.0.1 x.0.0.0.1 x.0.0.1 x.0.1 x.1)
    (tested_reads (λ x. is_node x.0.0.0.0.0.1 x.0.0.0.0.1 x.0.0.0.1 x.0.0.1 x.0.1 x.1)
    (then_reads (then_reads (then_reads (then_reads (then_reads (then_reads path_reads node_reads) number64) len_reads) flag_reads) stored_reads) flag_reads))
    ((((((p, dir), id), len), done), stored), pinned)
    (((((((first_true (is_path p) (ltb len (2 ^ 64)) f, tt), node_below dir id len done stored pinned b), ltb-true len (2 ^ 64) (second_true (is_path p) (ltb len (2 ^ 64)) f)), tt), tt), tt), b)
entry_again (Entry.Pending plan kind p q) f b =
    let n = first_true (is_plan plan) (is_move kind || is_root q) b in
    whole_again (λ x. Entry.Pending x.0.0.0 x.0.0.1 x.0.1 x.1) (tested_reads (λ x. is_move x.0.0.1 || is_root x.1) (then_reads (then_reads (then_reads plan_reads plan_kind_reads) path_reads) path_reads)) (((plan, kind), p), q)
    (((((plan_below plan n, n), tt), first_true (is_path p) (is_path q) f), second_true (is_path p) (is_path q) f), second_true (is_plan plan) (is_move kind || is_root q) b)
entry_again (Entry.Leaf plan p) f b = whole_again (λ x. Entry.Leaf x.0 x.1) (then_reads plan_reads path_reads) (plan, p) ((plan_below plan b, b), f)
