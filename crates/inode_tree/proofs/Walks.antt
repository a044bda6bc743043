-- A walk over the proper prefixes of a path, one after the other.
use Rattle.std.proofs.Common.{◌≡◌, ℕ, ◌+◌, ◌<◌, ◌≤◌, List, [], ◌∷◌, ◌++◌, map, length, drop, take, Option, Some, None, is_some, false, refl, sym, ap, ◌∙◌, append_assoc}
use Rattle.std.proofs.lemmas.List.{take_more, drop_more, drop_all, append-nil, map-id}
use Rattle.fs_model.specs.declared.path.Path.{Path}
use Rattle.fs_model.specs.State.{Node, NodeRow}
use Rattle.fs_model.specs.Words.{parts}
use Rattle.fs_model.specs.Lookups as machine
use Rattle.fs_model.specs.Lookups.{find_node, walk_part, walk_along, walk_end, walk_above, walk_nodes}
use Rattle.inode_tree.specs.Rows.{node_of, row_of_node}

abbrev pub free : machine.Walk
free = machine.Walk.Found Node.Directory

-- a walk that has come to an answer, or goes on to the next
abbrev pub onward : machine.Walk → machine.Walk → machine.Walk
onward (machine.Walk.Found n) next = next
onward machine.Walk.Absent next = machine.Walk.Absent
onward machine.Walk.Blocked next = machine.Walk.Blocked

pub walk_along-onward : (nodes : List NodeRow) (ps : List Path) (last : machine.Walk) → walk_along nodes ps last ≡ onward (walk_along nodes ps free) last
walk_along-onward nodes [] last = refl
walk_along-onward nodes (q ∷ qs) last =
    elim (find_node nodes q) as (λ at. walk_part at (walk_along nodes qs last) ≡ onward (walk_part at (walk_along nodes qs free)) last) [
      | None ↦ refl
      | Some node ↦ elim node as (λ n. walk_part (Some n) (walk_along nodes qs last) ≡ onward (walk_part (Some n) (walk_along nodes qs free)) last) [
        | Node.Directory ↦ walk_along-onward nodes qs last
        | Node.IsFile f ↦ refl
      ]
    ]

-- the proper prefixes lead on to the path itself, or decide
pub walk_nodes-above : (nodes : List NodeRow) (p : Path) (w : machine.Walk) → w ≡ walk_above nodes p → walk_nodes nodes p ≡ onward w (walk_end (find_node nodes p))
walk_nodes-above nodes p w is = walk_along-onward nodes (parts p) (walk_end (find_node nodes p)) ∙ ap (λ v. onward v (walk_end (find_node nodes p))) (sym is)

-- the path's prefixes from `up` on
abbrev pub parts_from : Path → Path → List Path
parts_from up [] = []
parts_from up (x ∷ xs) = up ∷ parts_from (up ++ x ∷ []) xs

map_map : (f g h : Path → Path) → ((q : Path) → f (g q) ≡ h q) → (qs : List Path) → map f (map g qs) ≡ map h qs
map_map f g h same [] = refl
map_map f g h same (q ∷ qs) = λ i. same q i ∷ map_map f g h same qs i

parts_from-parts : (up p : Path) → map (λ (q : Path). up ++ q) (parts p) ≡ parts_from up p
parts_from-parts up [] = refl
parts_from-parts up (x ∷ xs) =
    let rest : map (λ (q : Path). up ++ q) (map (λ (q : Path). x ∷ q) (parts xs)) ≡ parts_from (up ++ x ∷ []) xs =
    map_map (λ q. up ++ q) (λ q. x ∷ q) (λ q. (up ++ x ∷ []) ++ q) (λ q. sym (append_assoc up (x ∷ []) q)) (parts xs) ∙ parts_from-parts (up ++ x ∷ []) xs in
    λ i. append-nil up i ∷ rest i

-- the walk over the prefixes from the first i names on
abbrev pub rest_of : List NodeRow → Path → ℕ → machine.Walk
rest_of nodes p i = walk_along nodes (parts_from (take i p) (drop i p)) free

pub begins : (nodes : List NodeRow) (p : Path) → rest_of nodes p 0 ≡ walk_above nodes p
begins nodes p = ap (λ ps. walk_along nodes ps free) (sym (parts_from-parts [] p) ∙ map-id (parts p))

pub ends : (nodes : List NodeRow) (p : Path) (i : ℕ) → length p ≤ i → rest_of nodes p i ≡ free
ends nodes p i le = rw (drop_all i p le) refl

-- one prefix decides, or the walk goes on
pub one_part : (nodes : List NodeRow) (p : Path) (i : ℕ) (at : Option Node) → i < length p → at ≡ find_node nodes (take i p) → rest_of nodes p i ≡ walk_part at (rest_of nodes p (i + 1))
one_part nodes p i at lt is =
    let one : rest_of nodes p i ≡ walk_part (find_node nodes (take i p)) (rest_of nodes p (i + 1)) = rw (take_more p i [] lt, drop_more p i [] lt) refl in
    one ∙ ap (λ a. walk_part a (rest_of nodes p (i + 1))) (sym is)

-- the proper prefixes are directories, so the path itself decides
pub leads_on : (nodes : List NodeRow) (p : Path) (n : Node) (at : Option Node) → machine.Walk.Found n ≡ walk_above nodes p → at ≡ find_node nodes p → walk_end at ≡ walk_nodes nodes p
leads_on nodes p n at above is = ap walk_end is ∙ sym (walk_nodes-above nodes p (machine.Walk.Found n) above)

nothing : (at : Option Node) → walk_end at ≡ machine.Walk.Absent → at ≡ None
nothing None h = refl
nothing (Some n) h = cc

-- a path that leads to nothing, though its proper prefixes are directories, isn't there
pub is_free : (nodes : List NodeRow) (p : Path) → walk_nodes nodes p ≡ machine.Walk.Absent → walk_above nodes p ≡ free → find_node nodes p ≡ None
is_free nodes p absent parent = nothing (find_node nodes p) (leads_on nodes p Node.Directory (find_node nodes p) (sym parent) refl ∙ absent)

-- and the other way round
pub free_leads : (nodes : List NodeRow) (p : Path) → is_some (find_node nodes p) ≡ false → walk_above nodes p ≡ free → walk_nodes nodes p ≡ machine.Walk.Absent
free_leads nodes p none parent = sym (leads_on nodes p Node.Directory None (sym parent) (sym (no_node (find_node nodes p) none)))
  where
    no_node : (at : Option Node) → is_some at ≡ false → at ≡ None
    no_node None h = refl
    no_node (Some n) h = cc

-- the row that is told of a node is of that node
pub node_of-row_of_node : (n : Node) → node_of (row_of_node n) ≡ n
node_of-row_of_node Node.Directory = refl
node_of-row_of_node (Node.IsFile f) = refl
