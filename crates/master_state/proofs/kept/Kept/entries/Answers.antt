use Rattle.std.proofs.Common.{rules, ◌≡◌, ◌∷◌, ◌++◌, [], map, sym, ap, ◌∙◌}
use Rattle.journal_entry.specs.declared.entry.Entry.{Entry}
use Rattle.journal_entry.specs.Meaning.{checkpoint_entries}
use Rattle.master_state.specs.View.{plain_names}
use Rattle.master_state.specs.Kept.{mount_rows, entry_of_row}
use Rattle.master_state.proofs.KeptLaws.{entries_are}
use Rattle.master_state.proofs.kept.Kept.entries.Goals as goal

pub returns : goal.returns
returns c =
    let kept = c.self.inside in
    let rows = c.in_ok-rows.field-0.items in
    let view : plain_names kept.tree.nodes (mount_rows kept.mount) kept.next_id kept.next_plan ≡ c.args.self.now.names = ap (λ k. k.names) c.self.view_is in
    let start : c.push.new.self.items ≡ Entry.Next kept.next_id kept.next_plan ∷ [] = search rules in
    c.in_ok-push_nodes.ensures
    ∙ (λ i. start i ++ map (λ n. entry_of_row (sym view i).mounts n.path n.row) rows)
    ∙ entries_are kept.tree.nodes (mount_rows kept.mount) kept.next_id kept.next_plan rows c.in_ok-rows.ensures
    ∙ ap checkpoint_entries view
