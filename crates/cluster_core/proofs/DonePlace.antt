-- The row of a file that is found by its number.
use Rattle.std.proofs.Common.{◌≡◌, ℕ, Bool, true, false, cond, List, [], ◌∷◌, Option, Some, None, option_map, refl, sym, ap, ◌∙◌}
use Rattle.std.proofs.lemmas.Bool.{eqb-true}
use Rattle.std.proofs.lemmas.Option.{same_Some}
use Rattle.fs_model.specs.State.{NodeRow, File}
use Rattle.fs_model.specs.Lookups.{id_is}
use Rattle.inode_tree.specs.declared.row.Row.{Row}
use Rattle.inode_tree.specs.Rows.{file_row, node_of, node_if, file_in_row}

-- what is found has the number
has_number : (nodes : List NodeRow) (id : ℕ) (q : NodeRow) → file_row nodes id ≡ Some q → id_is id q.1 ≡ true
has_number [] id q is = absurd (cc)
has_number (e ∷ es) id q is = by_test (has_number es id q) (id_is id e.1) refl is
  where
    by_test : (file_row es id ≡ Some q → id_is id q.1 ≡ true) → (b : Bool) → id_is id e.1 ≡ b → cond b (Some e) (file_row es id) ≡ Some q → id_is id q.1 ≡ true
    by_test behind true test here = ap (λ (r : NodeRow). id_is id r.1) (sym (same_Some e q here)) ∙ test
    by_test behind false test later = behind later

a_file : (dir : Bool) (f : File) (id : ℕ) → id_is id (node_if dir f) ≡ true → (dir ≡ false) × (f.id ≡ id)
a_file true f id is = absurd (cc)
a_file false f id is = (refl, eqb-true f.id id is)

-- its row is a file's with that number
pub file_named : (nodes : List NodeRow) (id : ℕ) (row : Row) → Some (node_of row) ≡ option_map (λ (r : NodeRow). r.1) (file_row nodes id) → (row.dir ≡ false) × (row.id ≡ id)
file_named nodes id row is = of_row (file_row nodes id) (has_number nodes id) refl is
  where
    of_row : (y : Option NodeRow) → ((q : NodeRow) → file_row nodes id ≡ Some q → id_is id q.1 ≡ true) → file_row nodes id ≡ y → Some (node_of row) ≡ option_map (λ (r : NodeRow). r.1) y → (row.dir ≡ false) × (row.id ≡ id)
    of_row None test found is = absurd (cc)
    of_row (Some q) test found is = a_file row.dir (file_in_row row) id (ap (id_is id) (same_Some (node_of row) q.1 is) ∙ test q found)
