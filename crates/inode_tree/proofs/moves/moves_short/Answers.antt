use Rattle.std.proofs.Common.{◌≤◌, length, drop, ap, ◌∙◌, arith}
use Rattle.fs_model.specs.PathLength.{path_bytes}
use Rattle.inode_tree.proofs.MovedPaths.{under_length, few, few_behind, is_short_still}
use Rattle.inode_tree.proofs.moves.moves_short.Goals as goal

pub names_behind-rest-requires : goal.names_behind-rest-requires
names_behind-rest-requires c =
    let longer = under_length c.args.path.now c.args.upper.now c.requires.below in
    omega (arith, longer, ap length c.as_slice-front.ensures.names, ap length c.as_slice.ensures.names)

pub names_len-requires : goal.names_len-requires
names_len-requires c =
    let le : path_bytes c.as_slice-2.result.now ≤ 4096 = few c.args.to.now c.as_slice-2.result.now c.as_slice-2.ensures.names c.as_slice-2.ensures.path in
    omega (arith, le)

pub names_len-requires-2 : goal.names_len-requires-2
names_len-requires-2 c =
    let rest = c.names_behind-rest.ensures ∙ (λ i. drop (length (c.as_slice-front.ensures.names i)) (c.as_slice.ensures.names i)) in
    let le : path_bytes c.names_behind-rest.result.now ≤ 4096 = few_behind c.args.path.now (length c.args.upper.now) c.names_behind-rest.result.now rest c.as_slice.ensures.path in
    omega (arith, le)

pub overflow_add-result : goal.overflow_add-result
overflow_add-result c =
    let rest = c.names_behind-rest.ensures ∙ (λ i. drop (length (c.as_slice-front.ensures.names i)) (c.as_slice.ensures.names i)) in
    let first : path_bytes c.as_slice-2.result.now ≤ 4096 = few c.args.to.now c.as_slice-2.result.now c.as_slice-2.ensures.names c.as_slice-2.ensures.path in
    let second : path_bytes c.names_behind-rest.result.now ≤ 4096 = few_behind c.args.path.now (length c.args.upper.now) c.names_behind-rest.result.now rest c.as_slice.ensures.path in
    omega (arith, first, second, c.names_len.ensures, c.names_len-2.ensures)

pub returns : goal.returns
returns c =
    let rest = c.names_behind-rest.ensures ∙ (λ i. drop (length (c.as_slice-front.ensures.names i)) (c.as_slice.ensures.names i)) in
    is_short_still c.names_len.result c.names_len-2.result c.as_slice-2.result.now c.names_behind-rest.result.now c.args.to.now (drop (length c.args.upper.now) c.args.path.now) c.names_len.ensures c.names_len-2.ensures c.as_slice-2.ensures.names rest
