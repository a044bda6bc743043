-- Each entry of a checkpoint of plain names has a text.
use Rattle.std.proofs.Common.{◌≡◌, ℕ, ◌≤◌, Bool, true, false, cond, not, ◌&&◌, ◌||◌, ◌==◌, nat_lt, nat_le, List, [], ◌∷◌, ◌++◌, map, length, Option, Some, None, find, refl, ap, ◌∙◌, subst, arith}
use Rattle.std.specs.List.{list_all, flat_map}
use Rattle.std.proofs.lemmas.Bool.{and_parts}
use Rattle.std.proofs.lemmas.List.{append-nil}
use Rattle.fs_model.specs.declared.path.Path.{Path}
use Rattle.fs_model.specs.Words.{path_eq, path_len}
use Rattle.fs_model.specs.State.{Names, Node, NodeRow, MountRow}
use Rattle.fs_model.specs.Lookups.{mount_at, walk_above, stored_is_yes}
use Rattle.fs_model.specs.NodesEvents.{is_reserved}
use Rattle.fs_model.specs.Changes.{key_len}
use Rattle.journal_entry.specs.declared.entry.Entry.{Entry}
use Rattle.journal_entry.specs.Fields.{is_file_id, is_next, is_no, is_root}
use Rattle.journal_entry.specs.EntryText.{body, has_bounds, fits}
use Rattle.journal_entry.specs.Lengths.{body_len}
use Rattle.journal_entry.specs.Meaning.{node_entry, row_entry, plan_entries, checkpoint_entries}
use Rattle.journal_entry.proofs.BodyLengths.{length-body}
use Rattle.inode_tree.proofs.Numbers.{both}
use Rattle.master_state.specs.Walks.{is_open}
use Rattle.master_state.specs.Plain.{IsPlain, is_plain_row, is_plain_node, are_plain_mounts}

pub is_le : (m n : ℕ) → nat_le m n ≡ true → m ≤ n
is_le m n h = grind (arith, h)

pub passes_le : (m n : ℕ) → m ≤ n → nat_le m n ≡ true
passes_le m n le = grind (arith, le)

-- an entry whose body the machine counts short has a text
pub has_text : (e : Entry) → has_bounds e ≡ true → body_len e ≤ 8248 → fits e ≡ true
has_text e bounds short = both (has_bounds e) (nat_le (length (body e)) 8248) bounds (ap (λ n. nat_le n 8248) (length-body e) ∙ passes_le (body_len e) 8248 short)

node_text : (id : ℕ) (p : Path) (n : Node) → path_len p ≤ 4096 → is_plain_node id n ≡ true → fits (node_entry p n) ≡ true
node_text id p Node.Directory short h = has_text (node_entry p Node.Directory) refl (omega (arith, short))
node_text id p (Node.IsFile f) short h =
    let ends = and_parts (is_file_id f.id && nat_lt f.id id && not (stored_is_yes f.stored)) (f.done || (f.len == 0 && is_no f.stored)) h in
    let number = (and_parts (is_file_id f.id) (nat_lt f.id id) (and_parts (is_file_id f.id && nat_lt f.id id) (not (stored_is_yes f.stored)) ends.0).0).0 in
    has_text (node_entry p (Node.IsFile f)) (both (is_file_id f.id) (f.done || (f.len == 0 && is_no f.stored)) number ends.1) (omega (arith, short))

mount_text : (p : Path) (m : MountRow) → path_len p ≤ 4096 → key_len m.key ≤ 4096 → fits (Entry.Mount p m.store m.key 0) ≡ true
mount_text p m short key = has_text (Entry.Mount p m.store m.key 0) refl (omega (arith, short, key))

-- the mount that is found has a short key
short_key : (ms : List MountRow) (p : Path) (m : MountRow) → are_plain_mounts ms ≡ true → find (λ (r : MountRow). path_eq r.path p) ms ≡ Some m → key_len m.key ≤ 4096
short_key [] p m h is = absurd (cc)
short_key (r ∷ []) p m h is =
    let key = is_le (key_len r.key) 4096 (and_parts (is_root r.path && not (is_reserved r.key)) (nat_le (key_len r.key) 4096) h).1 in
    by_test (path_eq r.path p) is key
  where
    by_test : (b : Bool) → cond b (Some r) None ≡ Some m → key_len r.key ≤ 4096 → key_len m.key ≤ 4096
    by_test true same le = subst (λ o. key_len (key_in o) ≤ 4096) same le
      where
        key_in : Option MountRow → List (List ℕ)
        key_in None = []
        key_in (Some x) = x.key
    by_test false same le = absurd (cc)
short_key (r ∷ s ∷ ms) p m h is = absurd (cc)

module _ (N : Names) (plain : IsPlain N) where
  row_text : (r : NodeRow) → is_plain_row N r ≡ true → fits (row_entry N r) ≡ true
  row_text r h =
      let tests = and_parts (nat_le (path_len r.0) 4096 && is_open (walk_above N.nodes r.0)) (is_plain_node N.next_id r.1) h in
      let short = is_le (path_len r.0) 4096 (and_parts (nat_le (path_len r.0) 4096) (is_open (walk_above N.nodes r.0)) tests.0).0 in
      elim (mount_at N r.0) as (λ o. mount_at N r.0 ≡ o → fits (elim o [ None ↦ node_entry r.0 r.1 | Some m ↦ Entry.Mount r.0 m.store m.key 0 ]) ≡ true) [
        | None ↦ λ is. node_text N.next_id r.0 r.1 short tests.1
        | Some m ↦ λ is. mount_text r.0 m short (short_key N.mounts r.0 m plain.mounted is)
      ] refl

  rows_text : (rows : List NodeRow) → list_all (is_plain_row N) rows ≡ true → list_all fits (map (row_entry N) rows) ≡ true
  rows_text [] h = refl
  rows_text (r ∷ rows) h =
      let split = and_parts (is_plain_row N r) (list_all (is_plain_row N) rows) h in
      both (fits (row_entry N r)) (list_all fits (map (row_entry N) rows)) (row_text r split.0) (rows_text rows split.1)

  -- each entry of a checkpoint has a text
  pub checkpoint_texts : list_all fits (checkpoint_entries N) ≡ true
  checkpoint_texts =
      let next : fits (Entry.Next N.next_id N.next_plan) ≡ true = has_text (Entry.Next N.next_id N.next_plan) (both (is_next N.next_id) (is_next N.next_plan) plain.file_next plain.plan_next) (omega arith) in
      let rows : list_all fits (map (row_entry N) N.nodes) ≡ true = rows_text N.nodes plain.rows in
      both (fits (Entry.Next N.next_id N.next_plan)) (list_all fits (map (row_entry N) N.nodes ++ (flat_map plan_entries N.plans ++ map (λ w. Entry.Seen w) N.seen))) next
      ((λ i. list_all fits (map (row_entry N) N.nodes ++ (flat_map plan_entries (plain.planless i) ++ map (λ w. Entry.Seen w) (plain.unseen i))))
      ∙ ap (list_all fits) (append-nil (map (row_entry N) N.nodes)) ∙ rows)
