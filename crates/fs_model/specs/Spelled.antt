-- What a script's text and a configuration can spell.
use Rattle.std.specs.Prelude.{ℕ, ◌^◌, Bool, true, ◌&&◌, length, nat_eq, nat_lt, nat_le, List}
use Rattle.std.specs.List.{list_all}
use Rattle.fs_model.specs.declared.setup.Setup.{Setup}
use Rattle.fs_model.specs.declared.event.Event.{Event}
use Rattle.fs_model.specs.declared.event.Fill.{Fill}
use Rattle.fs_model.specs.declared.event.WriteType.{WriteType}
use Rattle.fs_model.specs.PathForm.{is_path, is_label, is_plain_key}

-- ---- numbers of a script

-- an actor is 1 to 64
abbrev pub is_actor : ℕ → Bool
is_actor n = nat_le 1 n && nat_le n 64

-- a worker, or 0 for none
abbrev pub is_worker_word : ℕ → Bool
is_worker_word w = nat_le w 1000

-- a worker, and not none
abbrev pub is_some_worker : ℕ → Bool
is_some_worker w = nat_le 1 w && nat_le w 1000

-- a file is written at a worker, but for THROUGH
abbrev pub is_worker_for : WriteType → ℕ → Bool
is_worker_for WriteType.MustCache w = is_some_worker w
is_worker_for WriteType.CacheThrough w = is_some_worker w
is_worker_for WriteType.Through w = nat_eq w 0
is_worker_for WriteType.AsyncThrough w = is_some_worker w

-- a number of bytes that one call may move
abbrev pub is_piece_len : ℕ → Bool
is_piece_len n = nat_le 1 n && nat_le n 65536

-- a byte is below 256
abbrev pub is_byte : ℕ → Bool
is_byte b = nat_lt b 256

-- 1 to 65,536 listed bytes, or as many of a generator from a place below 2^42 on
abbrev pub is_fill : Fill → Bool
is_fill (Fill.Listed bs) = is_piece_len (length bs) && list_all is_byte bs
is_fill (Fill.Made num at len) = nat_lt num 256 && nat_lt at (2 ^ 42) && is_piece_len len

-- ---- events

-- the event is one that a script can spell
abbrev pub is_spelled : Event → Bool
is_spelled (Event.Mkdir p) = is_path p
is_spelled (Event.Create l p kind w) = is_label l && is_path p && is_worker_for kind w
is_spelled (Event.Rename p q) = is_path p && is_path q
is_spelled (Event.Remove p deep) = is_path p
is_spelled (Event.Pin p on) = is_path p
is_spelled (Event.Persist p) = is_path p
is_spelled (Event.Free p) = is_path p
is_spelled (Event.Mount p s key) = is_path p && nat_le 1 s && nat_le s 1000 && is_plain_key key
is_spelled (Event.Unmount p) = is_path p
is_spelled (Event.List p) = is_path p
is_spelled (Event.Stat p) = is_path p
is_spelled (Event.Where p) = is_path p
is_spelled Event.Plans = true
is_spelled Event.Wanted = true
is_spelled (Event.Room l) = is_label l
is_spelled (Event.Put l fill) = is_label l && is_fill fill
is_spelled (Event.Finish l) = is_label l
is_spelled (Event.OpenFile l p kind w) = is_label l && is_path p && is_worker_word w
is_spelled (Event.Next l) = is_label l
is_spelled (Event.Poll l limit) = is_label l && is_piece_len limit
is_spelled (Event.Close l) = is_label l
is_spelled (Event.Job l p) = is_label l && is_path p
is_spelled (Event.Shift l w p i t) = is_label l && is_some_worker w && is_path p && nat_le i 65535 && nat_le t 9
is_spelled (Event.Copy l) = is_label l
is_spelled (Event.Start w) = is_some_worker w
is_spelled (Event.Register w) = is_some_worker w
is_spelled (Event.Beat w) = is_some_worker w
is_spelled Event.Tick = true
is_spelled (Event.Kill w) = is_some_worker w
is_spelled (Event.Sweep w) = is_worker_word w
is_spelled (Event.Pump n) = nat_lt n (2 ^ 63)
is_spelled Event.Checkpoint = true
is_spelled (Event.Fuse calls) = nat_lt calls (2 ^ 63)
is_spelled Event.Restart = true

-- ---- configurations

-- the number lies between two, both allowed
abbrev pub is_within : ℕ → ℕ → ℕ → Bool
is_within low high n = nat_le low n && nat_le n high

-- a worker has 1 to 3 tiers of 1 to 2^40 bytes
abbrev pub are_tiers : List ℕ → Bool
are_tiers sizes = is_within 1 3 (length sizes) && list_all (is_within 1 (2 ^ 40)) sizes

-- the setup is one that a configuration can give
abbrev pub is_setup : Setup → Bool
is_setup S =
    is_within 1 67108864 S.block && is_within 1 1000000 S.patience && is_within 64 1073741824 S.area && is_plain_key S.root && is_within 1 16 S.stores && nat_le (length S.tiers) 64 && list_all are_tiers S.tiers
