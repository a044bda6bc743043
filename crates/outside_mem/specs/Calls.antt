-- Which calls of a store in memory fail, and which of those that fail are done all the same.
use Rattle.std.specs.Prelude.{ℕ, ◌≡◌, Bool, false, not, ◌&&◌, ◌||◌, ◌-◌, ◌^◌, List, [], ◌∷◌, length, nat_eq, nat_le, if◌then◌else◌}
use Rattle.outside.specs.Causes.{next_count}
use Rattle.outside_mem.specs.Failures.{is_failing, is_quiet, IsQuiet}
use Rattle.outside_mem.specs.declared.failures.Failing.{Failing}
use Rattle.outside_mem.specs.declared.calls.Calls.{Calls}
use Rattle.outside_mem.specs.declared.calls.StoreCalls.{StoreCalls}
use Rattle.outside_mem.specs.declared.calls.ChangingCalls.{ChangingCalls}
use Rattle.outside_mem.specs.declared.calls.ByNumber.{ByNumber}
use Rattle.outside_mem.specs.declared.calls.DiskCalls.{DiskCalls}

-- the next call of a kind is to fail
abbrev pub fails_next : Calls → Bool
fails_next calls = is_failing calls.failing (next_count calls.count)

-- after one more call of a kind
abbrev pub after_call : Calls → Calls
after_call calls = record calls { count = next_count calls.count }

-- the next call of a kind that changes objects fails by itself: it is to fail, or no such call can be done
abbrev pub change_fails : ChangingCalls → Bool → Bool
change_fails calls barred = is_failing calls.failing (next_count calls.count) || barred

-- the next call of a kind that changes objects does its work: it isn't to fail, or is to do its work all the same
abbrev pub change_happens : ChangingCalls → Bool → Bool
change_happens calls barred = not barred && (not (is_failing calls.failing (next_count calls.count)) || is_failing calls.happening (next_count calls.count))

-- after one more call of a kind that changes objects
abbrev pub after_change : ChangingCalls → ChangingCalls
after_change calls = record calls { count = next_count calls.count }

-- no more changes can be counted
abbrev pub is_last : ℕ → Bool
is_last changes = nat_le (2 ^ 64 - 1) changes

-- of the reader or writer of this number, the poll or put of the other number is listed
abbrev pub is_listed_for : List ByNumber → ℕ → ℕ → Bool
is_listed_for [] number call = false
is_listed_for (told ∷ more) number call = if nat_eq told.number number then is_failing told.failing call else is_listed_for more number call

-- no reader's or writer's calls are listed
abbrev pub is_none_listed : List ByNumber → Bool
is_none_listed told = nat_eq (length told) 0

-- no call of a kind is to fail, and there were none
abbrev pub IsUnused : Failing → ℕ → Type 0
IsUnused failing count = IsQuiet failing × (count ≡ 0)

-- no call of a store, its readers or its writers is to fail, and there were none
pub record IsFresh (calls : StoreCalls) : Type 0 where
  pub begin_reads : IsUnused calls.begin_reads.failing calls.begin_reads.count
  pub begin_writes : IsUnused calls.begin_writes.failing calls.begin_writes.count
  pub finishes : IsUnused calls.finishes.failing calls.finishes.count
  pub renames : IsUnused calls.renames.failing calls.renames.count
  pub removes : IsUnused calls.removes.failing calls.removes.count
  pub next_keys : IsUnused calls.next_keys.failing calls.next_keys.count
  pub clears : IsUnused calls.clears.failing calls.clears.count
  pub polls : (calls.failing_polls.items ≡ []) × (calls.waiting_polls.items ≡ [])
  pub puts : calls.failing_puts.items ≡ []

-- no call of a disk is to fail, and there were none
pub record AreUnused (calls : DiskCalls) : Type 0 where
  pub lens : IsUnused calls.lens.failing calls.lens.count
  pub reads : IsUnused calls.reads.failing calls.reads.count
  pub writes : IsUnused calls.writes.failing calls.writes.count
  pub syncs : IsUnused calls.syncs.failing calls.syncs.count

-- no poll of a reader is to fail or to wait
abbrev pub are_polls_quiet : StoreCalls → Bool
are_polls_quiet calls = is_none_listed calls.failing_polls.items && is_none_listed calls.waiting_polls.items

-- no put of a writer and no call of the store itself is to fail
abbrev pub are_others_quiet : StoreCalls → Bool
are_others_quiet calls =
    is_none_listed calls.failing_puts.items
    && is_quiet calls.begin_reads.failing
    && is_quiet calls.begin_writes.failing
    && is_quiet calls.finishes.failing
    && is_quiet calls.renames.failing
    && is_quiet calls.removes.failing
    && is_quiet calls.next_keys.failing
    && is_quiet calls.clears.failing

-- no call of a store, its readers or its writers is to fail, and no poll is to wait
abbrev pub is_steady : StoreCalls → Bool
is_steady calls = are_polls_quiet calls && are_others_quiet calls
