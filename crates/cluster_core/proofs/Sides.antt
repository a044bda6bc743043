-- Area 0 and area 1 of a journal whose areas no call has changed.
use Rattle.std.proofs.Common.{◌≡◌, Bool, true, false, refl, ap, ◌∙◌}
use Rattle.outside.specs.declared.disk.Disk as disks
use Rattle.journal_disk.specs.Areas.{first_of, second_of}
use Rattle.outside.specs.Fuse.{Fusing}
use Rattle.journal_disk.specs.Journaling.{Journaling, StaysAs, area_0, area_1, fused_0, fused_1}

-- what is the same of the current area and of the other is the same of area 0 and of area 1
sides : {D A : Type 0} (f : D → A) (second : Bool) (h t k u : D) → f k ≡ f h → f u ≡ f t → (f (first_of second k u) ≡ f (first_of second h t)) × (f (second_of second k u) ≡ f (second_of second h t))
sides f true h t k u here there = (there, here)
sides f false h t k u here there = (here, there)

-- the disk of an area that may have a fuse is that of the area
pub fused_sides : {D : Type 0} (j : Journaling D) → ((fused_0 j).disk ≡ area_0 j) × ((fused_1 j).disk ≡ area_1 j)
fused_sides {D} j = by j.second j.here j.there
  where
    by : (second : Bool) (h t : Fusing D) → ((first_of second h t).disk ≡ first_of second h.disk t.disk) × ((second_of second h t).disk ≡ second_of second h.disk t.disk)
    by true h t = (refl, refl)
    by false h t = (refl, refl)

module _ {D : Type 0} (d : disks.Ghosts D) {old new : Journaling D} (h : StaysAs d old new) where
  -- so it is of what is told of each
  pub same_sides : {A : Type 0} (f : D → A) → f new.here.disk ≡ f old.here.disk → f new.there.disk ≡ f old.there.disk → (f (area_0 new) ≡ f (area_0 old)) × (f (area_1 new) ≡ f (area_1 old))
  same_sides f here there =
      let second : new.second ≡ old.second = ap (λ (j : Journaling D). j.second) h.rest in
      let both = sides f old.second old.here.disk old.there.disk new.here.disk new.there.disk here there in
      (ap (λ b. f (first_of b new.here.disk new.there.disk)) second ∙ both.0, ap (λ b. f (second_of b new.here.disk new.there.disk)) second ∙ both.1)
