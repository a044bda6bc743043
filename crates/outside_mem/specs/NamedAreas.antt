-- Journals' areas in memory by name.
use Rattle.std.specs.Prelude.{ℕ, ◌≡◌, List, [], Option, Some, None}
use Rattle.outside.specs.AreaShelf.{AreaShelf}
use Rattle.outside.specs.Fuse.{Fusing}
use Rattle.outside.specs.History.{beginning}
use Rattle.outside_mem.specs.Calls.{AreUnused}
use Rattle.outside_mem.specs.Disks.{disk_history}
use Rattle.outside_mem.specs.Named.{item_under}
use Rattle.outside_mem.specs.declared.disk.MemDisk.{MemDisk}
use Rattle.outside_mem.specs.declared.named.Named.{Named}

-- what a read of each of both areas gives, or nothing where there are none
abbrev pub bytes_of : Option (MemDisk × MemDisk) → List ℕ × List ℕ
bytes_of None = ([], [])
bytes_of (Some pair) = ((disk_history pair.0).now.held, (disk_history pair.1).now.held)

-- what is held under each name
abbrev pub areas_of : List (Named (MemDisk × MemDisk)) → AreaShelf
areas_of areas name = bytes_of (item_under areas name)

-- two areas without their fuses
abbrev pub unfused : Fusing MemDisk × Fusing MemDisk → MemDisk × MemDisk
unfused pair = (pair.0.disk, pair.1.disk)

-- an area holds nothing and never did, no call of it is to fail, and there were none
pub record IsNewArea (area : MemDisk) : Type 0 where
  pub history : disk_history area ≡ beginning []
  pub calls : AreUnused area.calls
  pub faults : area.faults ≡ 0

abbrev pub AreNewAreas : MemDisk × MemDisk → Type 0
AreNewAreas pair = IsNewArea pair.0 × IsNewArea pair.1

-- these are the areas that were found, or new ones where none were
abbrev pub AreFoundAreas : Option (MemDisk × MemDisk) → MemDisk × MemDisk → Type 0
AreFoundAreas None pair = AreNewAreas pair
AreFoundAreas (Some found) pair = pair ≡ found
