-- The words of events.
use Rattle.std.proofs.Common.{◌≡◌, ℕ, ◌-◌, ◌^◌, Bool, true, false, cond, List, [], ◌∷◌, codes, Option, Some, option_map, refl, sym, ap, ◌∙◌, subst, arith}
use Rattle.std.specs.Result.{result_ok}
use Rattle.std.specs.Str.{bytes_eq}
use Rattle.std.proofs.lemmas.Bool.{cond-true, leb-true, le-leb, ltb-true, lt-ltb}
use Rattle.std.proofs.lemmas.Slice.Eq.{bytes_eq-Decides}
use Rattle.percent_encoding.specs.Percent.{percent_decode}
use Rattle.fs_model.specs.PathForm.{is_label}
use Rattle.fs_model.specs.PathText.{read_path}
use Rattle.fs_model.specs.declared.event.Event.{Event}
use Rattle.fs_model.specs.declared.event.WriteType.{WriteType}
use Rattle.fs_model.specs.declared.event.ReadType.{ReadType}
use Rattle.fs_model.proofs.Grammar.{read_found, read_again}
use Rattle.script_text.specs.ScriptForm.{SpellsPath, SpellsEvent}
use Rattle.script_text.specs.EventText.{Reader, number_of, label_of, path_of, write_type_of, read_type_of, fill_of, only_path, only_label, mkdir_of, create_of, list_of, stat_of, room_of, put_of, finish_of, open_of, next_of, poll_of, close_of, checkpoint_of, fuse_of, readers, read_by, event_of}
use Rattle.script_text.proofs.Bools.{both_true, and_true}
use Rattle.script_text.proofs.Options.{and_then_some, map_some, ok_of, let_through}
use Rattle.script_text.proofs.Numbers.{number_found, number_again}
use Rattle.script_text.proofs.Fills.{fill_found, fill_again}

-- ---- what is read spells the argument

label_found : (word l : List ℕ) → label_of word ≡ Some l → (is_label l ≡ true) × (word ≡ l)
unfolding label_of
label_found word l h = let t = let_through (is_label word) word l h in (subst (λ x. is_label x ≡ true) t.1 t.0, t.1)

path_found : (word : List ℕ) (p : List (List ℕ)) → path_of word ≡ Some p → SpellsPath word p
unfolding path_of
path_found word p h = read_found (percent_decode word) p (ok_of (read_path (percent_decode word)) p h)

write_type_found : (word : List ℕ) (kind : WriteType) → write_type_of word ≡ Some kind → (word ≡ codes "MUST_CACHE") × (WriteType.MustCache ≡ kind)
unfolding write_type_of
write_type_found word kind h = let t = let_through (bytes_eq word (codes "MUST_CACHE")) WriteType.MustCache kind h in ((bytes_eq-Decides _ _).0 t.0, t.1)

read_type_found : (word : List ℕ) (kind : ReadType) → read_type_of word ≡ Some kind → (word ≡ codes "NO_CACHE") × (ReadType.NoCache ≡ kind)
unfolding read_type_of
read_type_found word kind h = let t = let_through (bytes_eq word (codes "NO_CACHE")) ReadType.NoCache kind h in ((bytes_eq-Decides _ _).0 t.0, t.1)

-- ---- what is read spells the event

-- a reader is right about each event that it reads
abbrev IsRight : List ℕ → (List (List ℕ) → Option Event) → Type 0
IsRight verb read = (words : List (List ℕ)) (e : Event) → read words ≡ Some e → SpellsEvent e (verb ∷ words)

-- so is a reader of one path
path_right : (verb : List ℕ) (event : List (List ℕ) → Event) → ((word : List ℕ) (p : List (List ℕ)) → SpellsPath word p → SpellsEvent (event p) (verb ∷ word ∷ [])) → IsRight verb (λ words. option_map event (only_path words))
unfolding only_path
path_right verb event spells [] e h = cc
path_right verb event spells (word ∷ []) e h =
    let p = map_some event (path_of word) e h in
    subst (λ x. SpellsEvent x (verb ∷ word ∷ [])) p.2 (spells word p.0 (path_found word p.0 p.1))
path_right verb event spells (word ∷ w ∷ more) e h = cc

-- and one of one label
label_right : (verb : List ℕ) (event : List ℕ → Event) → ((l : List ℕ) → is_label l ≡ true → SpellsEvent (event l) (verb ∷ l ∷ [])) → IsRight verb (λ words. option_map event (only_label words))
unfolding only_label
label_right verb event spells [] e h = cc
label_right verb event spells (word ∷ []) e h =
    let l = map_some event (label_of word) e h in
    let found = label_found word l.0 l.1 in
    subst (λ x. SpellsEvent x (verb ∷ word ∷ [])) l.2 (subst (λ w. SpellsEvent (event l.0) (verb ∷ w ∷ [])) (sym found.1) (spells l.0 found.0))
label_right verb event spells (word ∷ w ∷ more) e h = cc

mkdir_right : IsRight (codes "mkdir") mkdir_of
unfolding mkdir_of
mkdir_right = path_right (codes "mkdir") (λ p. Event.Mkdir p) (λ word p h. (refl, h.0, (word, refl, h)))

list_right : IsRight (codes "ls") list_of
unfolding list_of
list_right = path_right (codes "ls") (λ p. Event.List p) (λ word p h. (refl, h.0, (word, refl, h)))

stat_right : IsRight (codes "stat") stat_of
unfolding stat_of
stat_right = path_right (codes "stat") (λ p. Event.Stat p) (λ word p h. (refl, h.0, (word, refl, h)))

room_right : IsRight (codes "room") room_of
unfolding room_of
room_right = label_right (codes "room") (λ l. Event.Room l) (λ l h. (refl, h, refl))

finish_right : IsRight (codes "done") finish_of
unfolding finish_of
finish_right = label_right (codes "done") (λ l. Event.Finish l) (λ l h. (refl, h, refl))

next_right : IsRight (codes "next") next_of
unfolding next_of
next_right = label_right (codes "next") (λ l. Event.Next l) (λ l h. (refl, h, refl))

close_right : IsRight (codes "close") close_of
unfolding close_of
close_right = label_right (codes "close") (λ l. Event.Close l) (λ l h. (refl, h, refl))

create_right : IsRight (codes "create") create_of
unfolding create_of
create_right (label ∷ path ∷ kind ∷ worker ∷ []) e h =
    let l = and_then_some _ (label_of label) e h in
    let p = and_then_some _ (path_of path) e l.2 in
    let k = and_then_some _ (write_type_of kind) e p.2 in
    let w = and_then_some _ (number_of 1 1000 worker) e k.2 in
    let is_label = label_found label l.0 l.1 in
    let is_path = path_found path p.0 p.1 in
    let is_kind = write_type_found kind k.0 k.1 in
    let is_worker = number_found 1 1000 worker w.0 (omega arith) w.1 in
    let made : Event.Create l.0 p.0 WriteType.MustCache w.0 ≡ e = cc (w.2, is_kind.1) in
    let words = ap (λ x. codes "create" ∷ x ∷ path ∷ kind ∷ worker ∷ []) is_label.1 ∙ ap (λ x. codes "create" ∷ l.0 ∷ path ∷ x ∷ worker ∷ []) is_kind.0 ∙ ap (λ x. codes "create" ∷ l.0 ∷ path ∷ codes "MUST_CACHE" ∷ x ∷ []) is_worker.word_is in
    subst (λ x. SpellsEvent x (codes "create" ∷ label ∷ path ∷ kind ∷ worker ∷ [])) made
    (refl, and_true _ _ (and_true _ _ is_label.0 is_path.0) (and_true _ _ (le-leb 1 w.0 is_worker.from_least) (le-leb w.0 1000 is_worker.to_most)), (path, words, is_path))
create_right _ e h = cc

open_right : IsRight (codes "open") open_of
unfolding open_of
open_right (label ∷ path ∷ kind ∷ worker ∷ []) e h =
    let l = and_then_some _ (label_of label) e h in
    let p = and_then_some _ (path_of path) e l.2 in
    let k = and_then_some _ (read_type_of kind) e p.2 in
    let w = and_then_some _ (number_of 0 1000 worker) e k.2 in
    let is_label = label_found label l.0 l.1 in
    let is_path = path_found path p.0 p.1 in
    let is_kind = read_type_found kind k.0 k.1 in
    let is_worker = number_found 0 1000 worker w.0 (omega arith) w.1 in
    let made : Event.OpenFile l.0 p.0 ReadType.NoCache w.0 ≡ e = cc (w.2, is_kind.1) in
    let words = ap (λ x. codes "open" ∷ x ∷ path ∷ kind ∷ worker ∷ []) is_label.1 ∙ ap (λ x. codes "open" ∷ l.0 ∷ path ∷ x ∷ worker ∷ []) is_kind.0 ∙ ap (λ x. codes "open" ∷ l.0 ∷ path ∷ codes "NO_CACHE" ∷ x ∷ []) is_worker.word_is in
    subst (λ x. SpellsEvent x (codes "open" ∷ label ∷ path ∷ kind ∷ worker ∷ [])) made
    (refl, and_true _ _ (and_true _ _ is_label.0 is_path.0) (le-leb w.0 1000 is_worker.to_most), (path, words, is_path))
open_right _ e h = cc

put_right : IsRight (codes "put") put_of
unfolding put_of
put_right (label ∷ fill ∷ []) e h =
    let l = and_then_some _ (label_of label) e h in
    let f = and_then_some _ (fill_of fill) e l.2 in
    let is_label = label_found label l.0 l.1 in
    let is_fill = fill_found fill f.0 f.1 in
    let made : Event.Put l.0 f.0 ≡ e = cc (f.2) in
    subst (λ x. SpellsEvent x (codes "put" ∷ label ∷ fill ∷ [])) made
    (refl, and_true _ _ is_label.0 is_fill.1, (fill, ap (λ x. codes "put" ∷ x ∷ fill ∷ []) is_label.1, is_fill.0))
put_right _ e h = cc

poll_right : IsRight (codes "poll") poll_of
unfolding poll_of
poll_right (label ∷ limit ∷ []) e h =
    let l = and_then_some _ (label_of label) e h in
    let n = and_then_some _ (number_of 1 65536 limit) e l.2 in
    let is_label = label_found label l.0 l.1 in
    let is_limit = number_found 1 65536 limit n.0 (omega arith) n.1 in
    let made : Event.Poll l.0 n.0 ≡ e = cc (n.2) in
    let words = ap (λ x. codes "poll" ∷ x ∷ limit ∷ []) is_label.1 ∙ ap (λ x. codes "poll" ∷ l.0 ∷ x ∷ []) is_limit.word_is in
    subst (λ x. SpellsEvent x (codes "poll" ∷ label ∷ limit ∷ [])) made
    (refl, and_true _ _ is_label.0 (and_true _ _ (le-leb 1 n.0 is_limit.from_least) (le-leb n.0 65536 is_limit.to_most)), words)
poll_right _ e h = cc

checkpoint_right : IsRight (codes "checkpoint") checkpoint_of
unfolding checkpoint_of
checkpoint_right [] e h =
    let made : Event.Checkpoint ≡ e = cc (h) in
    subst (λ x. SpellsEvent x (codes "checkpoint" ∷ [])) made (refl, refl, refl)
checkpoint_right (word ∷ more) e h = cc

fuse_right : IsRight (codes "fuse") fuse_of
unfolding fuse_of
fuse_right (calls ∷ []) e h =
    let n = and_then_some _ (number_of 0 (2 ^ 63 - 1) calls) e h in
    let is_calls = number_found 0 (2 ^ 63 - 1) calls n.0 (omega arith) n.1 in
    let most = is_calls.to_most in
    let made : Event.Fuse n.0 ≡ e = cc (n.2) in
    subst (λ x. SpellsEvent x (codes "fuse" ∷ calls ∷ [])) made
    (refl, lt-ltb n.0 (2 ^ 63) (omega arith), ap (λ x. codes "fuse" ∷ x ∷ []) is_calls.word_is)
fuse_right _ e h = cc

-- each of these readers is right
abbrev AreRight : List Reader → Type 0
AreRight [] = Unit {0}
AreRight (r ∷ rs) = IsRight r.0 r.1 × AreRight rs

by_right : (rs : List Reader) → AreRight rs → (verb : List ℕ) (words : List (List ℕ)) (e : Event) → read_by rs verb words ≡ Some e → SpellsEvent e (verb ∷ words)
by_right [] right verb words e h = cc
by_right (r ∷ rs) right verb words e h = by_name (bytes_eq verb r.0) (bytes_eq-Decides _ _).0 (λ k. by_right rs right.1 verb words e k) h
  where
    by_name : (t : Bool) → (t ≡ true → verb ≡ r.0) → (read_by rs verb words ≡ Some e → SpellsEvent e (verb ∷ words)) → cond t (r.1 words) (read_by rs verb words) ≡ Some e → SpellsEvent e (verb ∷ words)
    by_name true is others h = subst (λ v. SpellsEvent e (v ∷ words)) (sym (is refl)) (right.0 words e h)
    by_name false is others h = others h

all_right : AreRight readers
all_right = (mkdir_right, (create_right, (list_right, (stat_right, (room_right, (put_right, (finish_right, (open_right, (next_right, (poll_right, (close_right, (checkpoint_right, (fuse_right, tt)))))))))))))

-- what is read spells the event
pub event_found : (words : List (List ℕ)) (e : Event) → event_of words ≡ Some e → SpellsEvent e words
unfolding event_of
event_found [] e h = cc
event_found (verb ∷ words) e h = by_right readers all_right verb words e h

-- ---- what spells an event is read

label_again : (l : List ℕ) → is_label l ≡ true → label_of l ≡ Some l
unfolding label_of
label_again l h = cond-true _ _ _ h

path_again : (word : List ℕ) (p : List (List ℕ)) → SpellsPath word p → path_of word ≡ Some p
unfolding path_of
path_again word p h = ap (λ x. result_ok (read_path x)) h.1 ∙ ap result_ok (read_again p h.0)

must_cache_again : write_type_of (codes "MUST_CACHE") ≡ Some WriteType.MustCache
unfolding write_type_of
must_cache_again = refl

no_cache_again : read_type_of (codes "NO_CACHE") ≡ Some ReadType.NoCache
unfolding read_type_of
no_cache_again = refl

-- what spells an event is read as it
pub event_again : (e : Event) (words : List (List ℕ)) → SpellsEvent e words → event_of words ≡ Some e
unfolding event_of only_path only_label mkdir_of create_of list_of stat_of room_of put_of finish_of open_of next_of poll_of close_of checkpoint_of fuse_of
event_again (Event.Mkdir p) words h = ap event_of h.2.1 ∙ rw (path_again h.2.0 p h.2.2) refl
event_again (Event.Create l p WriteType.MustCache w) words h =
    let parts = both_true _ _ h.1 in
    let named = both_true _ _ parts.0 in
    let bounds = both_true _ _ parts.1 in
    ap event_of h.2.1 ∙ rw (label_again l named.0, path_again h.2.0 p h.2.2, must_cache_again, number_again 1 1000 w (leb-true 1 w bounds.0) (leb-true w 1000 bounds.1) (omega arith)) refl
event_again (Event.List p) words h = ap event_of h.2.1 ∙ rw (path_again h.2.0 p h.2.2) refl
event_again (Event.Stat p) words h = ap event_of h.2.1 ∙ rw (path_again h.2.0 p h.2.2) refl
event_again (Event.Room l) words h = ap event_of h.2 ∙ rw (label_again l h.1) refl
event_again (Event.Put l fill) words h =
    let parts = both_true _ _ h.1 in
    ap event_of h.2.1 ∙ rw (label_again l parts.0, fill_again h.2.0 fill parts.1 h.2.2) refl
event_again (Event.Finish l) words h = ap event_of h.2 ∙ rw (label_again l h.1) refl
event_again (Event.OpenFile l p ReadType.NoCache w) words h =
    let parts = both_true _ _ h.1 in
    let named = both_true _ _ parts.0 in
    ap event_of h.2.1 ∙ rw (label_again l named.0, path_again h.2.0 p h.2.2, no_cache_again, number_again 0 1000 w (omega arith) (leb-true w 1000 parts.1) (omega arith)) refl
event_again (Event.Next l) words h = ap event_of h.2 ∙ rw (label_again l h.1) refl
event_again (Event.Poll l limit) words h =
    let parts = both_true _ _ h.1 in
    let bounds = both_true _ _ parts.1 in
    ap event_of h.2 ∙ rw (label_again l parts.0, number_again 1 65536 limit (leb-true 1 limit bounds.0) (leb-true limit 65536 bounds.1) (omega arith)) refl
event_again (Event.Close l) words h = ap event_of h.2 ∙ rw (label_again l h.1) refl
event_again Event.Checkpoint words h = ap event_of h.2
event_again (Event.Fuse calls) words h =
    let below = ltb-true calls (2 ^ 63) h.1 in
    ap event_of h.2 ∙ rw (number_again 0 (2 ^ 63 - 1) calls (omega arith) (omega arith) (omega arith)) refl
event_again _ words h = let built = h.0 in cc
