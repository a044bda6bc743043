use Rattle.std.proofs.Common.{◌≡◌, ℕ, Option, Some, None, IfSome, true, arith, subst, sym}
use Rattle.std.proofs.lemmas.Bool.{leb-true}
use Rattle.fs_model.specs.BytesEvents.{block_wanted}
use Rattle.outside.specs.declared.objects.ObjectWrite as writes
use Rattle.file_writer.specs.declared.parts.Block.{Block}
use Rattle.file_writer.specs.Parts.{BlockFits, open_block}
use Rattle.file_writer.specs.Writing.{Writing, wants_room}
use Rattle.file_writer.specs.Taken.{HasTaken}
use Rattle.file_writer.proofs.Blocks.{has_taken-empty}
use Rattle.file_writer.proofs.writer.FileWriter.supply.Goals as goal

-- an open block that wants room is full
full : {W : Type 0} (w : writes.Ghosts W) (bs : ℕ) (b : Option (Block W)) → block_wanted bs (open_block b) ≡ true → IfSome b (BlockFits w bs) → IfSome b (λ x. x.len ≡ bs)
full w bs None wanted fits = tt
full w bs (Some b) wanted fits = let f : BlockFits w bs b = fits in omega (arith, leb-true bs b.len wanted)

pub returns-clause-bytes : goal.returns-clause-bytes
returns-clause-bytes g c bytes has told =
    let x : Writing g.row.T.Denot = record { bs = c.self.inside.block_size; len = c.self.inside.total; worker = c.self.inside.worker; block = c.self.inside.block; object = c.self.inside.object } in
    let taken : HasTaken g.T.ObjectWrite x bytes = subst (λ y. HasTaken g.T.ObjectWrite y bytes) (sym c.self.view_is) has in
    let wanted : wants_room x ≡ true = subst (λ y. wants_room y ≡ true) (sym c.self.view_is) c.requires.room in
    rw c.of.ensures
    (has_taken-empty g.T.ObjectWrite x c.args.block bytes c.self.invariant.size
    (full g.T.ObjectWrite x.bs x.block wanted c.self.invariant.block) c.requires.empty told taken)
