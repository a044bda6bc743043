-- Which files an event may finish.
use Rattle.std.specs.Prelude.{Bool, true, false, not, ◌&&◌, Option, Some, None}
use Rattle.fs_model.specs.declared.event.Event.{Event}
use Rattle.fs_model.specs.Built.{is_built_write}
use Rattle.fs_model.specs.State.{State, Hand, Hands}
use Rattle.fs_model.specs.Lookups.{file_of}
use Rattle.fs_model.specs.BytesEvents.{unbroken_at}
use Rattle.master_state.specs.Fits.{file_passes}

-- a writer of a kind that is built has a file that isn't done, and no job stores one
abbrev pub hand_is_new : State → Option Hand → Bool
hand_is_new A None = true
hand_is_new A (Some (Hand.Reading s)) = true
hand_is_new A (Some (Hand.Writing w)) = is_built_write w.kind && file_passes (λ f. not f.done) (file_of A.names w.file)
hand_is_new A (Some (Hand.Moving m)) = true
hand_is_new A (Some (Hand.Storing j)) = false

-- an event finishes only such a file
abbrev pub finishes_new : State → Hands → Event → Bool
finishes_new A H (Event.Finish l) = hand_is_new A (unbroken_at H l)
finishes_new A H e = true
