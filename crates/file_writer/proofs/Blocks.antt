-- Where a new block begins, and that it has no bytes.
use Rattle.std.proofs.Common.{◌≡◌, ℕ, ◌+◌, ◌-◌, ◌*◌, ◌/◌, ◌<◌, length, List, [], drop, Option, Some, None, IfSome, ap, ◌∙◌, arith}
use Rattle.std.proofs.Math.Nat.{mul-div_cancel}
use Rattle.std.proofs.lemmas.List.{drop_all, take_all}
use Rattle.outside.specs.declared.objects.ObjectWrite as writes
use Rattle.file_writer.specs.declared.parts.Block.{Block}
use Rattle.file_writer.specs.Pens.{PenHas, Tells, pen_of}
use Rattle.file_writer.specs.Parts.{empty_block}
use Rattle.file_writer.specs.Writing.{Writing}
use Rattle.file_writer.specs.Taken.{BlockHas, HasTaken, IsAligned, open_bytes, open_index}

-- so many whole blocks are counted by division
whole : (bs n i : ℕ) → 0 < bs → n ≡ i * bs → n / bs * bs ≡ n
whole bs n i some is =
    let e : n / bs ≡ i = ap (λ m. m / bs) is ∙ mul-div_cancel i some in
    cc

-- after a full block a block begins at the end
aligned-next : (bs len : ℕ) (bytes : List ℕ) → 0 < bs → len ≡ bs → IsAligned bs len bytes → IsAligned bs 0 bytes
aligned-next bs len bytes some full aligned =
    let more : length bytes ≡ (open_index bs len bytes + 1) * bs = omega arith in
    let even : length bytes / bs * bs ≡ length bytes = whole bs (length bytes) (open_index bs len bytes + 1) some more in
    let same : length bytes - 0 ≡ length bytes = omega arith in
    rw same (omega arith)

-- an empty block at the end has no bytes
open_bytes-nil : (bs : ℕ) (bytes : List ℕ) → IsAligned bs 0 bytes → open_bytes bs 0 bytes ≡ []
open_bytes-nil bs bytes aligned =
    let none : drop (open_index bs 0 bytes * bs) bytes ≡ [] = drop_all (open_index bs 0 bytes * bs) bytes (omega arith) in
    rw none (take_all bs [] (omega arith))

-- the writer that was given has the bytes of an empty block: none
pen_has-nil : {W : Type 0} (w : writes.Ghosts W) (block : Option W) → IfSome block (λ writer. w.written writer ≡ 0) → IfSome block (Tells w []) → PenHas w [] (pen_of block)
pen_has-nil w None empty told = tt
pen_has-nil w (Some writer) empty told = record { written = empty; told = told }

-- after the last full block, or before the first, a block begins at the end
aligned_end : {W : Type 0} (w : writes.Ghosts W) (bs : ℕ) (old : Option (Block W)) (bytes : List ℕ) → 0 < bs → IfSome old (λ b. b.len ≡ bs) → BlockHas w bs bytes old → IsAligned bs 0 bytes
aligned_end w bs None bytes some full has = has
aligned_end w bs (Some b) bytes some full has = aligned-next bs b.len bytes some full has.0

-- a new block is empty, at the end of what was taken
pub has_taken-empty : {W : Type 0} (w : writes.Ghosts W) (x : Writing W) (block : Option W) (bytes : List ℕ) → 0 < x.bs → IfSome x.block (λ b. b.len ≡ x.bs) → IfSome block (λ writer. w.written writer ≡ 0) → IfSome block (Tells w []) → HasTaken w x bytes → HasTaken w (record x { block = Some (empty_block block) }) bytes
has_taken-empty w x block bytes some full empty told has =
    let end : IsAligned x.bs 0 bytes = aligned_end w x.bs x.block bytes some full has.block in
    record {
      len = has.len;
      block = (end, rw (open_bytes-nil x.bs bytes end) (pen_has-nil w block empty told));
      object = has.object;
    }
