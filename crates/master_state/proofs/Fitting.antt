-- The change of an accepted event fits plain names, and its entry has a text.
use Rattle.std.proofs.Common.{◌≡◌, ℕ, ◌^◌, Bool, true, false, cond, not, ◌&&◌, ◌||◌, ◌==◌, nat_lt, nat_le, nat_eq, List, [], ◌∷◌, Option, Some, None, is_none, option_and_then, find, refl, sym, ap, ◌∙◌, subst, arith, length}
use Rattle.std.specs.List.{list_all}
use Rattle.std.proofs.lemmas.Bool.{and_parts}
use Rattle.std.proofs.lemmas.Option.{same_Some}
use Rattle.fs_model.specs.declared.path.Path.{Path}
use Rattle.fs_model.specs.declared.setup.Setup.{Setup}
use Rattle.fs_model.specs.declared.label.Label.{Label}
use Rattle.fs_model.specs.declared.event.Event.{Event}
use Rattle.fs_model.specs.declared.event.WriteType.{WriteType}
use Rattle.fs_model.specs.declared.change.Change.{Change}
use Rattle.fs_model.specs.declared.reply.Reply.{Reply}
use Rattle.fs_model.specs.declared.reply.Refusal.{Refusal}
use Rattle.fs_model.specs.declared.reply.Refusal.TheVariants.{Exists, Limit}
use Rattle.fs_model.specs.declared.reply.Which.{Which}
use Rattle.fs_model.specs.declared.reply.Stored.{Stored}
use Rattle.fs_model.specs.PathForm.{is_path, is_label}
use Rattle.fs_model.specs.Spelled.{is_spelled, is_worker_for}
use Rattle.fs_model.specs.Words.{first, path_len}
use Rattle.fs_model.specs.State.{State, Names, Node, NodeRow, File, Hand, Hands, Writer}
use Rattle.fs_model.specs.Lookups.{Walk, Touch, walk_above, has_node, id_is, file_of, file_in, stored_is_yes}
use Rattle.fs_model.specs.Tests.{refuse, walk_fault, stopped, touch, along_new, past_nodes, past_labels, past_ids, past_area, label_taken, not_configured_if_any, not_live, ◌only_if◌}
use Rattle.fs_model.specs.NamesEvents.{mkdir_tests, mkdir_refusal, create_refusal, create_change}
use Rattle.fs_model.specs.BytesEvents.{unbroken_at, writer_change, stored_by, plan_of_stored}
use Rattle.fs_model.specs.Journaling.{change_of, finish_change}
use Rattle.fs_model.specs.Machine.{refusal}
use Rattle.fs_model.specs.Built as events
use Rattle.fs_model.proofs.ShortPaths.{path_len-short}
use Rattle.journal_entry.specs.declared.entry.Entry.{Entry}
use Rattle.journal_entry.specs.Fields.{is_file_id, is_no}
use Rattle.journal_entry.specs.EntryText.{fits}
use Rattle.journal_entry.specs.Meaning.{entry_of_change}
use Rattle.inode_tree.proofs.Numbers.{both}
use Rattle.master_state.specs.Walks.{is_open, has_place}
use Rattle.master_state.specs.Fits.{is_new_id, file_passes}
use Rattle.master_state.specs.Effect.{counts_in}
use Rattle.master_state.specs.Places.{place_test}
use Rattle.master_state.specs.Plain.{IsPlain, is_plain_row, is_plain_file}
use Rattle.master_state.specs.Finishing.{finishes_new, hand_is_new}
use Rattle.master_state.proofs.Texts.{has_text}

-- no test of the list holds
abbrev AllNone : {X : Type 0} → List (Option X) → Type 0
AllNone [] = Unit {0}
AllNone (o ∷ os) = (o ≡ None) × AllNone os

none_holds : {X : Type 0} (os : List (Option X)) → first os ≡ None → AllNone os
none_holds [] h = tt
none_holds (None ∷ os) h = (refl, none_holds os h)
none_holds (Some x ∷ os) h = cc

open_walk : (w : Walk) → walk_fault w ≡ None → is_open w ≡ true
open_walk (Walk.Found n) h = refl
open_walk Walk.Absent h = cc
open_walk Walk.Blocked h = cc

not_refused : (r : Refusal) (b : Bool) → refuse r b ≡ None → not b ≡ true
not_refused r true h = cc
not_refused r false h = refl

-- a node may come in
place_there : (N : Names) (p : Path) → walk_fault (walk_above N.nodes p) ≡ None → refuse Exists (has_node N p) ≡ None → has_place N p ≡ true
place_there N p walk free = both (is_open (walk_above N.nodes p)) (not (has_node N p)) (open_walk (walk_above N.nodes p) walk) (not_refused Exists (has_node N p) free)

-- ---- numbers of files

not_greater : (n : ℕ) → nat_lt n n ≡ true → ⊥
not_greater n h = grind (arith, h)

same_number : (m n : ℕ) → nat_eq m n ≡ true → m ≡ n
same_number m n h = grind (arith, h)

-- no file has the next number
next_is_new : (N : Names) (rows : List NodeRow) → list_all (is_plain_row N) rows ≡ true → find (λ (r : NodeRow). id_is N.next_id r.1) rows ≡ None
next_is_new N [] h = refl
next_is_new N ((p, Node.Directory) ∷ rows) h = next_is_new N rows (and_parts (is_plain_row N (p, Node.Directory)) (list_all (is_plain_row N) rows) h).1
next_is_new N ((p, Node.IsFile f) ∷ rows) h =
    let split = and_parts (is_plain_row N (p, Node.IsFile f)) (list_all (is_plain_row N) rows) h in
    let file = (and_parts (nat_le (path_len p) 4096 && is_open (walk_above N.nodes p)) (is_plain_file N.next_id f) split.0).1 in
    let ends = and_parts (is_file_id f.id && nat_lt f.id N.next_id && not (stored_is_yes f.stored)) (f.done || (f.len == 0 && is_no f.stored)) file in
    let lower = (and_parts (is_file_id f.id) (nat_lt f.id N.next_id) (and_parts (is_file_id f.id && nat_lt f.id N.next_id) (not (stored_is_yes f.stored)) ends.0).0).1 in
    by_test (nat_eq f.id N.next_id) refl lower (next_is_new N rows split.1)
  where
    by_test : (b : Bool) → nat_eq f.id N.next_id ≡ b → nat_lt f.id N.next_id ≡ true → find (λ (r : NodeRow). id_is N.next_id r.1) rows ≡ None → cond b (Some (p, Node.IsFile f)) (find (λ (r : NodeRow). id_is N.next_id r.1) rows) ≡ None
    by_test true same lower behind = absurd (not_greater N.next_id (subst (λ m. nat_lt m N.next_id ≡ true) (same_number f.id N.next_id same) lower))
    by_test false same lower behind = behind

-- the number of a file that is there is one of a file
number_there : (N : Names) (id : ℕ) (test : File → Bool) (rows : List NodeRow) → list_all (is_plain_row N) rows ≡ true → file_passes test (option_and_then (λ (r : NodeRow). file_in r.1) (find (λ (r : NodeRow). id_is id r.1) rows)) ≡ true → is_file_id id ≡ true
number_there N id test [] h is = cc
number_there N id test ((p, Node.Directory) ∷ rows) h is = number_there N id test rows (and_parts (is_plain_row N (p, Node.Directory)) (list_all (is_plain_row N) rows) h).1 is
number_there N id test ((p, Node.IsFile f) ∷ rows) h is =
    let split = and_parts (is_plain_row N (p, Node.IsFile f)) (list_all (is_plain_row N) rows) h in
    let file = (and_parts (nat_le (path_len p) 4096 && is_open (walk_above N.nodes p)) (is_plain_file N.next_id f) split.0).1 in
    let ends = and_parts (is_file_id f.id && nat_lt f.id N.next_id && not (stored_is_yes f.stored)) (f.done || (f.len == 0 && is_no f.stored)) file in
    let number = (and_parts (is_file_id f.id) (nat_lt f.id N.next_id) (and_parts (is_file_id f.id && nat_lt f.id N.next_id) (not (stored_is_yes f.stored)) ends.0).0).0 in
    by_test (nat_eq f.id id) refl number (number_there N id test rows split.1) is
  where
    by_test : (b : Bool) → nat_eq f.id id ≡ b → is_file_id f.id ≡ true → (file_passes test (option_and_then (λ (r : NodeRow). file_in r.1) (find (λ (r : NodeRow). id_is id r.1) rows)) ≡ true → is_file_id id ≡ true)
        → file_passes test (option_and_then (λ (r : NodeRow). file_in r.1) (cond b (Some (p, Node.IsFile f)) (find (λ (r : NodeRow). id_is id r.1) rows))) ≡ true → is_file_id id ≡ true
    by_test true same number behind here = subst (λ m. is_file_id m ≡ true) (same_number f.id id same) number
    by_test false same number behind here = behind here

not_le : (m n : ℕ) → not (nat_le m n) ≡ true → nat_lt n m ≡ true
not_le m n h = grind (arith, h)

-- ---- the changes

abbrev pub Fits : Names → Change → Type 0
Fits N c = (counts_in (entry_of_change c) N ≡ true) × (fits (entry_of_change c) ≡ true)

mkdir_fits : (N : Names) (p : Path) → is_path p ≡ true → has_place N p ≡ true → Fits N (Change.Mkdir p)
mkdir_fits N p form place = (place, has_text (Entry.Mkdir p) refl (omega (arith, path_len-short p form)))

create_fits : (N : Names) (p : Path) → IsPlain N → is_path p ≡ true → has_place N p ≡ true → not (nat_le (2 ^ 63) N.next_id) ≡ true → Fits N (Change.Create N.next_id p)
create_fits N p plain form place low =
    let new : is_new_id N N.next_id ≡ true = ap is_none (next_is_new N N.nodes plain.rows) in
    let number : is_file_id N.next_id ≡ true = both (nat_lt 0 N.next_id) (nat_lt N.next_id (2 ^ 63)) (and_parts (nat_lt 0 N.next_id) (nat_le N.next_id (2 ^ 63)) plain.file_next).0 (not_le (2 ^ 63) N.next_id low) in
    (both (has_place N p) (is_new_id N N.next_id) place new, has_text (Entry.Create N.next_id p) number (omega (arith, path_len-short p form)))

pub done_fits : (N : Names) (id len : ℕ) → IsPlain N → file_passes (λ f. not f.done) (file_of N id) ≡ true → Fits N (Change.Done id len Stored.No 0)
done_fits N id len plain undone =
    (both (file_passes (λ f. not f.done) (file_of N id)) true undone refl, has_text (Entry.Done id len Stored.No 0) (both (is_file_id id) true (number_there N id (λ f. not f.done) N.nodes plain.rows undone) refl) (omega arith))

-- ---- the events

-- a file that is made where a node can be made has a new number
pub create_counts : (N M : Names) (p q : Path) (id : ℕ) → M ≡ N → q ≡ p → id ≡ M.next_id → IsPlain M → place_test N p ≡ None → (has_place N q && is_new_id N id) ≡ true
create_counts N M p q id same own next plain place =
    let passed = none_holds (walk_fault (walk_above N.nodes p) ∷ refuse Exists (has_node N p) ∷ []) place in
    let new : is_new_id M M.next_id ≡ true = ap is_none (next_is_new M M.nodes plain.rows) in
    (λ i. has_place N (own i) && is_new_id (sym same i) (next i)) ∙ both (has_place N p) (is_new_id M M.next_id) (place_there N p passed.0 passed.1.0) new

of_mkdir : (S : Setup) (A : State) (p : Path) → is_path p ≡ true → mkdir_refusal S A p ≡ None → Fits A.names (Change.Mkdir p)
of_mkdir S A p form h =
    let passed = none_holds (mkdir_tests S A p) h in
    mkdir_fits A.names p form (place_there A.names p passed.1.1.0 passed.1.1.1.0)

of_create : (S : Setup) (A : State) (H : Hands) (l : Label) (p : Path) (w : ℕ) → IsPlain A.names → is_path p ≡ true → create_refusal S A H l p w ≡ None → Fits A.names (Change.Create A.names.next_id p)
of_create S A H l p w plain form h =
    let tests : List (Option Reply) =
    label_taken H l
    ∷ stopped A
    ∷ touch A p Touch.Inside
    ∷ along_new A p
    ∷ refuse Exists (has_node A.names p)
    ∷ not_configured_if_any S w
    ∷ past_nodes A 1
    ∷ past_labels H
    ∷ past_ids A.names.next_id
    ∷ past_area S A (create_change A p)
    ∷ (not_live A w only_if not (nat_eq w 0))
    ∷ [] in
    let passed = none_holds tests h in
    let place = passed.1.1.1 in
    create_fits A.names p plain form (place_there A.names p place.0 place.1.0) (not_refused (Limit Which.Ids) (nat_le (2 ^ 63) A.names.next_id) place.1.1.1.1.1.0)

-- a writer of a kind that is built stores nothing
of_writer : (A : State) (w : Writer) → IsPlain A.names → (events.is_built_write w.kind && file_passes (λ f. not f.done) (file_of A.names w.file)) ≡ true → Fits A.names (writer_change A w)
of_writer A w plain h =
    let split = and_parts (events.is_built_write w.kind) (file_passes (λ f. not f.done) (file_of A.names w.file)) h in
    by_kind w.kind refl split.0 (done_fits A.names w.file (length w.taken) plain split.1)
  where
    by_kind : (k : WriteType) → w.kind ≡ k → events.is_built_write k ≡ true → Fits A.names (Change.Done w.file (length w.taken) Stored.No 0) → Fits A.names (writer_change A w)
    by_kind WriteType.MustCache is b fit = subst (λ k. Fits A.names (Change.Done w.file (length w.taken) (stored_by k) (plan_of_stored A (stored_by k)))) (sym is) fit
    by_kind WriteType.CacheThrough is b fit = absurd (cc)
    by_kind WriteType.Through is b fit = absurd (cc)
    by_kind WriteType.AsyncThrough is b fit = absurd (cc)

of_finish : (A : State) (o : Option Hand) (c : Change) → IsPlain A.names → hand_is_new A o ≡ true → option_and_then (finish_change A) o ≡ Some c → Fits A.names c
of_finish A None c plain new is = absurd (cc)
of_finish A (Some (Hand.Reading s)) c plain new is = absurd (cc)
of_finish A (Some (Hand.Writing w)) c plain new is = subst (Fits A.names) (same_Some (writer_change A w) c is) (of_writer A w plain new)
of_finish A (Some (Hand.Moving m)) c plain new is = absurd (cc)
of_finish A (Some (Hand.Storing j)) c plain new is = absurd (cc)

no_change : {A : Type 0} (c : Change) → None ≡ Some c → A
no_change c is = absurd (cc)

-- the change of an accepted event fits
pub change_fits : (S : Setup) (A : State) (H : Hands) (e : Event) (c : Change) → events.is_built e ≡ true → is_spelled e ≡ true → IsPlain A.names → finishes_new A H e ≡ true → refusal S A H e ≡ None → change_of S A H e ≡ Some c → Fits A.names c
change_fits S A H (Event.Mkdir p) c built spelled plain new accepted is = subst (Fits A.names) (same_Some (Change.Mkdir p) c is) (of_mkdir S A p spelled accepted)
change_fits S A H (Event.Create l p kind w) c built spelled plain new accepted is =
    let words = and_parts (is_label l && is_path p) (is_worker_for kind w) spelled in
    subst (Fits A.names) (same_Some (Change.Create A.names.next_id p) c is) (of_create S A H l p w plain (and_parts (is_label l) (is_path p) words.0).1 accepted)
change_fits S A H (Event.Finish l) c built spelled plain new accepted is = of_finish A (unbroken_at H l) c plain new is
change_fits S A H (Event.List p) c built spelled plain new accepted is = no_change c is
change_fits S A H (Event.Stat p) c built spelled plain new accepted is = no_change c is
change_fits S A H (Event.Room l) c built spelled plain new accepted is = no_change c is
change_fits S A H (Event.Put l fill) c built spelled plain new accepted is = no_change c is
change_fits S A H (Event.OpenFile l p kind w) c built spelled plain new accepted is = no_change c is
change_fits S A H (Event.Next l) c built spelled plain new accepted is = no_change c is
change_fits S A H (Event.Poll l limit) c built spelled plain new accepted is = no_change c is
change_fits S A H (Event.Close l) c built spelled plain new accepted is = no_change c is
change_fits S A H Event.Checkpoint c built spelled plain new accepted is = no_change c is
change_fits S A H (Event.Fuse calls) c built spelled plain new accepted is = no_change c is
change_fits S A H Event.Restart c built spelled plain new accepted is = no_change c is
change_fits S A H e c built spelled plain new accepted is = not_built built
  where
    not_built : {B : Type 0} → false ≡ true → B
    not_built h = absurd (cc)
