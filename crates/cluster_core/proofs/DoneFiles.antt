-- The files once one more is done, and what is known of them.
use Rattle.std.proofs.Common.{◌≡◌, ℕ, ◌*◌, ◌<◌, ◌≤◌, Bool, true, false, cond, ◌&&◌, List, [], ◌∷◌, ◌++◌, length, map, find, nat_eq, Option, Some, None, is_some, inl, refl, sym, ap, ◌∙◌, subst, arith}
use Rattle.std.specs.Prelude.{IsSomeAnd}
use Rattle.std.specs.List.{All}
use Rattle.std.proofs.lemmas.List.Elements.{All-head, All-tail, All-cons, All-nil}
use Rattle.std.proofs.lemmas.Bool.{eq-eqb, eqb-true}
use Rattle.fs_model.specs.declared.reply.Stored.{Stored}
use Rattle.fs_model.specs.State.{Node as machineNode, NodeRow, File, Content}
use Rattle.fs_model.specs.Lookups.{id_is}
use Rattle.fs_model.specs.Changes.{set_file}
use Rattle.cluster_core.specs.Knowledge.{Knowledge, Holder, with_author, with_owner}
use Rattle.cluster_core.specs.Stands.{FilesStand, FileFits, DoneFits}
use Rattle.cluster_core.specs.Names.{done_nodes}
use Rattle.cluster_core.proofs.Frames.{KnownOn}
use Rattle.cluster_core.specs.AreasStand.{content_row}

-- ---- one element more at the end

module _ {X : Type 0} (p : X → Bool) where
  pub found_in : (xs : List X) (c y : X) → find p xs ≡ Some y → find p (xs ++ c ∷ []) ≡ Some y
  found_in [] c y h = absurd (cc)
  found_in (x ∷ xs) c y h = by_test (p x) (found_in xs c y) h
    where
      by_test : (b : Bool) → (find p xs ≡ Some y → find p (xs ++ c ∷ []) ≡ Some y) → cond b (Some x) (find p xs) ≡ Some y → cond b (Some x) (find p (xs ++ c ∷ [])) ≡ Some y
      by_test true behind h = h
      by_test false behind h = behind h

  pub last_in : (xs : List X) (c : X) → find p xs ≡ None → find p (xs ++ c ∷ []) ≡ cond (p c) (Some c) None
  last_in [] c h = refl
  last_in (x ∷ xs) c h = by_test (p x) (last_in xs c) h
    where
      by_test : (b : Bool) → (find p xs ≡ None → find p (xs ++ c ∷ []) ≡ cond (p c) (Some c) None) → cond b (Some x) (find p xs) ≡ None → cond b (Some x) (find p (xs ++ c ∷ [])) ≡ cond (p c) (Some c) None
      by_test true behind h = absurd (cc)
      by_test false behind h = behind h

there_and : {X : Type 0} (P : X → Type 0) (y : Option X) → IsSomeAnd y P → (c : X) × (y ≡ Some c) × P c
there_and P None h = absurd h
there_and P (Some c) h = (c, refl, h)

all_map : {X Y : Type 0} (P : X → Type 0) (Q : Y → Type 0) (f : X → Y) → ((x : X) → P x → Q (f x)) → (xs : List X) → All P xs → All Q (map f xs)
all_map P Q f each [] all = All-nil Q
all_map P Q f each (x ∷ xs) all = All-cons Q (f x) (map f xs) (each x (All-head P x xs all)) (all_map P Q f each xs (All-tail P x xs all))

cond_same : {X : Type 0} (b : Bool) (x : X) → cond b x x ≡ x
cond_same true x = refl
cond_same false x = refl

-- ---- what is known

-- a file is done: nobody writes it any more
pub known_done : (K : Knowledge) (next id : ℕ) → KnownOn K (with_author id None K) next next
known_done K next id = record {
  later = omega arith;
  files = λ n few. record { bytes = inl refl; author = λ h. by_test (nat_eq id n) (K.author n) h };
  owners = λ w n h. h;
}
  where
    by_test : (b : Bool) (q : Option Holder) → is_some (cond b None q) ≡ true → is_some q ≡ true
    by_test true q h = absurd (cc)
    by_test false q h = h

-- and its last reservation belongs to no label
pub known_gone : (K : Knowledge) (next v n id : ℕ) → KnownOn K (with_author id None (with_owner v n None K)) next next
known_gone K next v n id = record {
  later = omega arith;
  files = λ k few. record { bytes = inl refl; author = λ h. by_file (nat_eq id k) (K.author k) h };
  owners = λ u k h. by_test (nat_eq v u && nat_eq n k) (K.owner u k) h;
}
  where
    by_file : (b : Bool) (q : Option Holder) → is_some (cond b None q) ≡ true → is_some q ≡ true
    by_file true q h = absurd (cc)
    by_file false q h = h

    by_test : (b : Bool) (q : Option Holder) → q ≡ None → cond b None q ≡ None
    by_test true q h = refl
    by_test false q h = h

-- no other label wrote the file
pub author_left : (K : Knowledge) (a : Holder) (id n : ℕ) → K.author id ≡ Some a → (K.author n ≡ Some a → ⊥) → cond (nat_eq id n) None (K.author n) ≡ K.author n
author_left K a id n mine other = elim (nat_eq id n) as (λ b. nat_eq id n ≡ b → cond b None (K.author n) ≡ K.author n) [
  | true ↦ λ is. absurd (other (ap K.author (sym (eqb-true id n is)) ∙ mine))
  | false ↦ λ isnt. refl
] refl

pub no_author : (K : Knowledge) (id : ℕ) → cond (nat_eq id id) None (K.author id) ≡ None
no_author K id = ap (λ b. cond b None (K.author id)) (eq-eqb id id refl)

-- ---- the files

module _ (K N : Knowledge) (next bs : ℕ) (nodes : List NodeRow) (contents : List Content) (s : FilesStand K next bs nodes contents) (id : ℕ) (bytes : List ℕ) (a : Holder) (author : K.author id ≡ Some a) (mine : K.bytes_of id ≡ Some bytes) (short : length bytes ≤ 65536 * bs) (old : id < next)
    (same_bytes : (n : ℕ) → N.bytes_of n ≡ K.bytes_of n) (authors : (n : ℕ) → N.author n ≡ cond (nat_eq id n) None (K.author n)) where
  abbrev kept : Content
  kept = record { file = id; bytes = bytes }

  abbrev more : List Content
  more = contents ++ kept ∷ []

  none_yet : content_row contents id ≡ None
  none_yet = s.written id (ap is_some author)

  now_there : content_row more id ≡ Some kept
  now_there = last_in (λ (c : Content). nat_eq c.file id) contents kept none_yet ∙ ap (λ b. cond b (Some kept) None) (eq-eqb id id refl)

  mine_done : (f : File) → f.id ≡ id → f.len ≡ length bytes → DoneFits N more bs f
  mine_done f is len = record {
    bytes = subst (λ n. IsSomeAnd (content_row more n) (λ c. (N.bytes_of n ≡ Some c.bytes) × (length c.bytes ≡ f.len))) (sym is) (subst (λ y. IsSomeAnd y (λ c. (N.bytes_of id ≡ Some c.bytes) × (length c.bytes ≡ f.len))) (sym now_there) (same_bytes id ∙ mine, sym len));
    short = subst (λ n. n ≤ 65536 * bs) (sym len) short;
    written = authors f.id ∙ ap (λ n. cond (nat_eq id n) None (K.author n)) is ∙ no_author K id;
  }

  other_done : (f : File) → DoneFits K contents bs f → DoneFits N more bs f
  other_done f d =
      let c = there_and (λ c. (K.bytes_of f.id ≡ Some c.bytes) × (length c.bytes ≡ f.len)) (content_row contents f.id) d.bytes in
      record {
        bytes = subst (λ y. IsSomeAnd y (λ k. (N.bytes_of f.id ≡ Some k.bytes) × (length k.bytes ≡ f.len))) (sym (found_in (λ (k : Content). nat_eq k.file f.id) contents kept c.0 c.1)) (same_bytes f.id ∙ c.2.0, c.2.1);
        short = d.short;
        written = authors f.id ∙ ap (cond (nat_eq id f.id) None) d.written ∙ cond_same (nat_eq id f.id) None;
      }

  abbrev set_done : File → File
  set_done f = record f { len = length bytes; done = true; stored = Stored.No }

  row_done : (row : NodeRow) → FileFits K contents next bs row → FileFits N more next bs (row.0, cond (id_is id row.1) (set_file set_done row.1) row.1)
  row_done (p, machineNode.Directory) f = f
  row_done (p, machineNode.IsFile g) f = elim (nat_eq g.id id) as (λ b. nat_eq g.id id ≡ b → FileFits N more next bs (p, cond b (machineNode.IsFile (set_done g)) (machineNode.IsFile g))) [
    | true ↦ λ is. (f.0, refl, λ done. mine_done (set_done g) (eqb-true g.id id is) refl)
    | false ↦ λ isnt. (f.0, f.1, λ done. other_done g (f.2 done))
  ] refl

  written_on : (n : ℕ) → is_some (N.author n) ≡ true → content_row more n ≡ None
  written_on n h = elim (nat_eq id n) as (λ b. nat_eq id n ≡ b → is_some (cond b None (K.author n)) ≡ true → content_row more n ≡ None) [
    | true ↦ λ is h. absurd (cc)
    | false ↦ λ isnt h. last_in (λ (c : Content). nat_eq c.file n) contents kept (s.written n h) ∙ ap (λ b. cond b (Some kept) None) isnt
  ] refl (ap is_some (sym (authors n)) ∙ h)

  fresh_on : (n : ℕ) → next ≤ n → (content_row more n ≡ None) × (N.author n ≡ None)
  fresh_on n late =
      let was = s.fresh n late in
      let differ : nat_eq id n ≡ false = grind (arith, old, late) in (
        last_in (λ (c : Content). nat_eq c.file n) contents kept was.0 ∙ ap (λ b. cond b (Some kept) None) differ,
        authors n ∙ ap (cond (nat_eq id n) None) was.1 ∙ cond_same (nat_eq id n) None,
      )

  pub files_done : FilesStand N next bs (done_nodes id (length bytes) nodes) more
  files_done = record {
    each = all_map (FileFits K contents next bs) (FileFits N more next bs) (λ (r : NodeRow). (r.0, cond (id_is id r.1) (set_file set_done r.1) r.1)) row_done nodes s.each;
    written = written_on;
    fresh = fresh_on;
  }
