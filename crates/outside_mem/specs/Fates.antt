-- What becomes of the calls of a store in memory that change objects.
use Rattle.std.specs.Prelude.{Bool, not, ◌&&◌, ◌||◌, ◌-◌, ◌^◌, length, nat_le}
use Rattle.outside.specs.Keys.{KeyNames}
use Rattle.outside_mem.specs.Calls.{change_fails, change_happens, fails_next, is_last}
use Rattle.outside_mem.specs.Stored.{is_crossed, is_move_crossed}
use Rattle.outside_mem.specs.declared.store.MemObjects.{MemObjects}

-- no object can be ended: no more changes can be counted, or the list of objects is as long as a list can be
abbrev pub is_full : MemObjects → Bool
is_full store = is_last store.changes || nat_le (2 ^ 63 - 1) (length store.objects)

-- the next `finish` with the key fails by itself, is a miss, and does its work
abbrev pub finish_fails : MemObjects → Bool
finish_fails store = change_fails store.calls.finishes (is_full store)

abbrev pub finish_misses : MemObjects → KeyNames → Bool
finish_misses store key = is_crossed key key store.objects

abbrev pub finish_happens : MemObjects → KeyNames → Bool
finish_happens store key = change_happens store.calls.finishes (is_full store) && not (finish_misses store key)

-- the next `rename` of these keys fails by itself, is a miss, and does its work
abbrev pub rename_fails : MemObjects → Bool
rename_fails store = change_fails store.calls.renames (is_last store.changes)

abbrev pub rename_misses : MemObjects → KeyNames → KeyNames → Bool
rename_misses store from to = is_move_crossed from to store.objects

abbrev pub rename_happens : MemObjects → KeyNames → KeyNames → Bool
rename_happens store from to = change_happens store.calls.renames (is_last store.changes) && not (rename_misses store from to)

-- the next `remove` fails, and does its work
abbrev pub remove_fails : MemObjects → Bool
remove_fails store = change_fails store.calls.removes (is_last store.changes)

abbrev pub remove_happens : MemObjects → Bool
remove_happens store = change_happens store.calls.removes (is_last store.changes)

-- the next `clear` fails
abbrev pub clear_fails : MemObjects → Bool
clear_fails store = fails_next store.calls.clears || is_last store.changes
