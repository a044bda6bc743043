use Rattle.std.proofs.Common.{◌++◌, length, drop, ap, ◌∙◌, arith}
use Rattle.inode_tree.proofs.MovedPaths.{under_length, text_is, path_text_is, is_path_still, path_read, not_too_long, not_bad}
use Rattle.inode_tree.proofs.moves.moved_path.Goals as goal

pub names_behind-requires : goal.names_behind-requires
names_behind-requires c =
    let longer = under_length c.args.path.now c.args.upper.now c.requires.below in
    omega (arith, longer, ap length c.as_slice-front.ensures.names, ap length c.as_slice-2.ensures.names)

pub returns-in-Ok : goal.returns-in-Ok
returns-in-Ok c =
    let rest = c.names_behind.ensures ∙ (λ i. drop (length (c.as_slice-front.ensures.names i)) (c.as_slice-2.ensures.names i)) in
    let ns = c.args.to.now ++ drop (length c.args.upper.now) c.args.path.now in
    let items = text_is c.new-text.result.items _ _ _ _ c.args.to.now (drop (length c.args.upper.now) c.args.path.now) c.new-text.ensures.items c.in_ok-push_names.ensures c.in_ok-push_names-2.ensures c.as_slice.ensures.names rest in
    let text = path_text_is ns c.deref.result.now _ _ c.deref.ensures.value items c.deref.ensures.len c.if-is_empty.ensures in
    path_read ns c.in-Ok.path (c.in-Ok.ensures.only ns (is_path_still c.args.to.now c.args.path.now (length c.args.upper.now) c.as_slice.ensures.path c.as_slice-2.ensures.path c.requires.short) text)

pub unreachable-requires : goal.unreachable-requires
unreachable-requires c =
    let rest = c.names_behind.ensures ∙ (λ i. drop (length (c.as_slice-front.ensures.names i)) (c.as_slice-2.ensures.names i)) in
    let ns = c.args.to.now ++ drop (length c.args.upper.now) c.args.path.now in
    let items = text_is c.new-text.result.items _ _ _ _ c.args.to.now (drop (length c.args.upper.now) c.args.path.now) c.new-text.ensures.items c.in_ok-push_names.ensures c.in_ok-push_names-2.ensures c.as_slice.ensures.names rest in
    let text = path_text_is ns c.deref.result.now _ _ c.deref.ensures.value items c.deref.ensures.len c.if-is_empty.ensures in
    not_too_long c.in-Err-TooLong.field-0 ns c.in-Err-TooLong.field-0-is (c.in-Err-TooLong.ensures.only ns (is_path_still c.args.to.now c.args.path.now (length c.args.upper.now) c.as_slice.ensures.path c.as_slice-2.ensures.path c.requires.short) text)

pub unreachable-requires-in-Err-BadName : goal.unreachable-requires-in-Err-BadName
unreachable-requires-in-Err-BadName c =
    let rest = c.names_behind.ensures ∙ (λ i. drop (length (c.as_slice-front.ensures.names i)) (c.as_slice-2.ensures.names i)) in
    let ns = c.args.to.now ++ drop (length c.args.upper.now) c.args.path.now in
    let items = text_is c.new-text.result.items _ _ _ _ c.args.to.now (drop (length c.args.upper.now) c.args.path.now) c.new-text.ensures.items c.in_ok-push_names.ensures c.in_ok-push_names-2.ensures c.as_slice.ensures.names rest in
    let text = path_text_is ns c.deref.result.now _ _ c.deref.ensures.value items c.deref.ensures.len c.if-is_empty.ensures in
    not_bad c.in-Err-BadName.field-0 c.in-Err-BadName.field-0-0 ns c.in-Err-BadName.field-0-is (c.in-Err-BadName.ensures.only ns (is_path_still c.args.to.now c.args.path.now (length c.args.upper.now) c.as_slice.ensures.path c.as_slice-2.ensures.path c.requires.short) text)
