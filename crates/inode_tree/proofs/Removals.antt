-- Entries that go: what stays is in order, and no two of it have one number.
use Rattle.std.proofs.Common.{◌≡◌, ℕ, Bool, true, false, cond, List, [], ◌∷◌, Option, refl, ap, ◌∙◌}
use Rattle.std.specs.List.{filter, list_all}
use Rattle.std.specs.FinMap.Entries.{is_sorted, is_sorted-where_key}
use Rattle.std.proofs.lemmas.Bool.{and_parts}
use Rattle.fs_model.specs.declared.path.Path.{Path}
use Rattle.fs_model.specs.State.{NodeRow}
use Rattle.fs_model.specs.Words.{path_cmp}
use Rattle.fs_model.specs.Changes.{keep_nodes}
use Rattle.inode_tree.specs.declared.entry.Entry.{Entry}
use Rattle.inode_tree.specs.Entries.{node_row, node_rows, in_order}
use Rattle.inode_tree.specs.Rows.{file_id, ids_of, differ, all_differ}
use Rattle.inode_tree.proofs.Rising.{passed, is_true}
use Rattle.inode_tree.proofs.Numbers.{both}

module _ (test : Path → Bool) where
  -- the rows of the entries that stay are those that the machine keeps
  pub rows_kept : (es : List Entry) → node_rows (filter (λ e. test e.path) es) ≡ keep_nodes test (node_rows es)
  rows_kept [] = refl
  rows_kept (e ∷ es) =
      elim (test e.path) as (λ b. node_rows (cond b (e ∷ filter (λ x. test x.path) es) (filter (λ x. test x.path) es)) ≡ cond b (node_row e ∷ keep_nodes test (node_rows es)) (keep_nodes test (node_rows es))) [
        | true ↦ ap (λ rows. node_row e ∷ rows) (rows_kept es)
        | false ↦ rows_kept es
      ]

  all_kept : (p : Option ℕ → Bool) (rows : List NodeRow) → list_all p (ids_of rows) ≡ true → list_all p (ids_of (keep_nodes test rows)) ≡ true
  all_kept p [] h = refl
  all_kept p (r ∷ rows) h =
      let parts = and_parts (p (file_id r.1)) (list_all p (ids_of rows)) h in
      elim (test r.0) as (λ b. list_all p (ids_of (cond b (r ∷ keep_nodes test rows) (keep_nodes test rows))) ≡ true) [
        | true ↦ both (p (file_id r.1)) (list_all p (ids_of (keep_nodes test rows))) parts.0 (all_kept p rows parts.1)
        | false ↦ all_kept p rows parts.1
      ]

  differ_kept : (rows : List NodeRow) → all_differ (ids_of rows) ≡ true → all_differ (ids_of (keep_nodes test rows)) ≡ true
  differ_kept [] h = refl
  differ_kept (r ∷ rows) h =
      let parts = and_parts (list_all (differ (file_id r.1)) (ids_of rows)) (all_differ (ids_of rows)) h in
      elim (test r.0) as (λ b. all_differ (ids_of (cond b (r ∷ keep_nodes test rows) (keep_nodes test rows))) ≡ true) [
        | true ↦ both (list_all (differ (file_id r.1)) (ids_of (keep_nodes test rows))) (all_differ (ids_of (keep_nodes test rows))) (all_kept (differ (file_id r.1)) rows parts.0) (differ_kept rows parts.1)
        | false ↦ differ_kept rows parts.1
      ]

  -- what stays, by the entries as they are afterwards
  module _ (es ys : List Entry) (kept : ys ≡ filter (λ e. test e.path) es) where
    pub is_kept : (nodes : List NodeRow) → node_rows es ≡ nodes → node_rows ys ≡ keep_nodes test nodes
    is_kept nodes view = ap node_rows kept ∙ rows_kept es ∙ ap (keep_nodes test) view

    pub kept_in_order : in_order es ≡ true → in_order ys ≡ true
    kept_in_order ordered = ap in_order kept ∙ ap (is_sorted path_cmp) (rows_kept es) ∙ is_true _ (is_sorted-where_key path_cmp test (node_rows es) (passed _ ordered))

    pub kept_differ : all_differ (ids_of (node_rows es)) ≡ true → all_differ (ids_of (node_rows ys)) ≡ true
    kept_differ apart = ap (λ rows. all_differ (ids_of rows)) (is_kept (node_rows es) refl) ∙ differ_kept (node_rows es) apart
