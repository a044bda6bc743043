-- What the bytes of both areas stand for.
use Rattle.std.specs.Prelude.{◌≡◌, ◌⊎◌, ℕ, Bool, true, false, nat_lt, List, Option, Some, None, Result, Ok, Err, if◌then◌else◌, unwrap_or}
use Rattle.journal_entry.specs.declared.entry.Entry.{Entry}
use Rattle.journal_disk.specs.AreaText.{Read, area_of, head_of}

-- an area that is current: which one, its generation, its entries, and the place of its closed gate
pub record Current : Type 0 where
  pub second : Bool
  pub generation : ℕ
  pub entries : List Entry
  pub gate : ℕ

-- the current area, none where the journal is fresh, or the area and the place of the damage
abbrev pub Found : Type 0
Found = Result (Option Current) (ℕ × ℕ)

-- area 0 and area 1, of the current area and the other one
abbrev pub first_of : {A : Type 0} → Bool → A → A → A
first_of second here there = if second then there else here

abbrev pub second_of : {A : Type 0} → Bool → A → A → A
second_of second here there = if second then here else there

-- whether area 1 is current, of the generations of those that are open: the greater one counts, and area 0 where they are equal
abbrev pub current_of : Option ℕ → Option ℕ → Option Bool
current_of None None = None
current_of (Some a) None = Some false
current_of None (Some b) = Some true
current_of (Some a) (Some b) = Some (nat_lt a b)

-- the same, of the generation of the one area and the other
abbrev pub chosen : Bool → Option ℕ → Option ℕ → Option Bool
chosen second here there = current_of (first_of second here there) (second_of second here there)

abbrev pub area_number : Bool → ℕ
area_number second = if second then 1 else 0

abbrev pub in_area : Bool → ℕ → Read → Found
in_area second generation (Ok x) = Ok (Some (record { second = second; generation = generation; entries = x.0; gate = x.1 }))
in_area second generation (Err place) = Err (area_number second, place)

abbrev pub journal_by : Option Bool → List ℕ → List ℕ → Found
journal_by None a b = Ok None
journal_by (Some false) a b = in_area false (unwrap_or (head_of a) 0) (area_of a)
journal_by (Some true) a b = in_area true (unwrap_or (head_of b) 0) (area_of b)

-- what area 0 and area 1 stand for
abbrev pub journal_of : List ℕ → List ℕ → Found
journal_of a b = journal_by (current_of (head_of a) (head_of b)) a b

-- both areas stand for the one or the other
abbrev pub IsBeforeOrAfter : Option Current → Option Current → List ℕ → List ℕ → Type 0
IsBeforeOrAfter before after a b = (journal_of a b ≡ Ok before) ⊎ (journal_of a b ≡ Ok after)
