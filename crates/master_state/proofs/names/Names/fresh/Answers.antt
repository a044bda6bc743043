use Rattle.master_state.proofs.FirstMount.{root_taken}
use Rattle.master_state.proofs.names.Names.fresh.Goals as goal

pub returns : goal.returns
returns c = root_taken c.args.setup.now c.in_ok-root_mount.field-0 c.in_ok-names.names.names c.mount_first.new.self.names c.requires c.in_ok-root_mount.ensures.entry c.in_ok-names.ensures.names c.in_ok-mount_first.ensures
