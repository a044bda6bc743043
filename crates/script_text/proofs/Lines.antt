-- Reading a text line by line, as a loop does.
use Rattle.std.proofs.Common.{◌≡◌, ℕ, suc, ◌+◌, ◌<◌, ◌≤◌, Bool, true, false, not, cond, List, [], ◌∷◌, ◌++◌, length, take, drop, Option, None, Some, option_to_list, Result, Ok, Err, refl, sym, ap, ◌∙◌, append_assoc, arith, nat_lt, ◌==◌}
use Rattle.std.proofs.lemmas.Bool.{ltb-false}
use Rattle.std.proofs.lemmas.List.{append-nil, drop-drop, nil_from_length}
use Rattle.std.specs.List.{position_or_len, onto_first}
use Rattle.script_text.specs.declared.script.Command.{Command}
use Rattle.script_text.specs.declared.read.ScriptFault.{ScriptFault}
use Rattle.script_text.specs.declared.read.ScriptFault.TheVariants.{BadLine, Memory}
use Rattle.script_text.specs.ScriptText.{lines_of, read_line, onto, before, commands_of, Fails}

-- the place that a search found
pub is_at : (place len found : ℕ) → cond (nat_lt place len) (Some place) None ≡ Some found → found ≡ place
is_at place len found h = by_test (nat_lt place len) h
  where
    by_test : (t : Bool) → cond t (Some place) None ≡ Some found → found ≡ place
    by_test true h = cc
    by_test false h = cc

-- where a search found none, it came to the end
pub is_nowhere : (place len : ℕ) → place ≤ len → cond (nat_lt place len) (Some place) None ≡ None → len ≡ place
is_nowhere place len within h = by_test (nat_lt place len) (λ e. ltb-false place len e) h
  where
    by_test : (t : Bool) → (t ≡ false → len ≤ place) → cond t (Some place) None ≡ None → len ≡ place
    by_test true le h = cc
    by_test false le h = let past = le refl in omega arith

-- where the first line feed stands
abbrev pub feed : List ℕ → ℕ
feed text = position_or_len (λ b. b == 10) text

-- the lines of a text by its first line
abbrev Begins : List ℕ → List (List ℕ) → ℕ → Type 0
Begins text lines n = lines ≡ take n text ∷ lines_of (drop (n + 1) text)

later : (b c : ℕ) (bs : List ℕ) (n : ℕ) (t : Bool) → Begins (c ∷ bs) (lines_of (c ∷ bs)) n → Begins (b ∷ c ∷ bs) (cond t ([] ∷ lines_of (c ∷ bs)) (onto_first b (lines_of (c ∷ bs)))) (cond (not t) (1 + n) 0)
later b c bs n true h = refl
later b c bs n false h =
    let one : 1 + n ≡ suc n = omega arith in
    let two : suc n + 1 ≡ suc (n + 1) = omega arith in
    rw (h, one, two) refl

only : (b : ℕ) (t : Bool) → Begins (b ∷ []) (cond t ([] ∷ []) ((b ∷ []) ∷ [])) (cond (not t) 1 0)
only b true = refl
only b false = refl

-- the first line ends before the first line feed, and the next begins behind it
pub first_line : (text : List ℕ) → 0 < length text → Begins text (lines_of text) (feed text)
first_line [] some = absurd (omega arith)
first_line (b ∷ []) some = only b (b == 10)
first_line (b ∷ c ∷ bs) some = later b c bs (feed (c ∷ bs)) (b == 10) (first_line (c ∷ bs) (omega arith))

pub not_empty : (text : List ℕ) → (length text == 0) ≡ false → 0 < length text
not_empty [] h = cc
not_empty (b ∷ bs) h = omega arith

-- the same for a text that was split at its first line feed
pub split_line : (text line after : List ℕ) (n : ℕ) → 0 < length text → n ≡ feed text → line ≡ take n text → after ≡ drop n text → lines_of text ≡ line ∷ lines_of (drop 1 after)
split_line text line after n some place front back =
    let h : Begins text (lines_of text) n = rw place (first_line text some) in
    rw (front, back, drop-drop) h

-- where nothing is left, the first line is the last
pub last_of : (text line after : List ℕ) (n : ℕ) → 0 < length text → n ≡ feed text → line ≡ take n text → after ≡ drop n text → length after ≡ 0 → lines_of text ≡ line ∷ lines_of after
last_of text line after n some place front back empty =
    let nil = nil_from_length after empty in
    split_line text line after n some place front back ∙ ap (λ x. line ∷ lines_of x) (ap (drop 1) nil ∙ sym nil)

-- what was read before, and what is still read
abbrev pub with_front : List Command → Result (List Command) ScriptFault → Result (List Command) ScriptFault
with_front front (Ok cs) = Ok (front ++ cs)
with_front front (Err e) = Err e

regroup : (front : List Command) (c : Command) (read : Result (List Command) ScriptFault) → with_front front (onto c read) ≡ with_front (front ++ c ∷ []) read
regroup front c (Ok cs) = ap (λ (x : List Command). Ok x) (sym (append_assoc front (c ∷ []) cs))
regroup front c (Err e) = refl

-- what is read of lines, by the first one
pub next_is : (front : List Command) (place : ℕ) (line : List ℕ) (lines all : List (List ℕ)) → all ≡ line ∷ lines → with_front front (commands_of place all) ≡ with_front front (before (read_line place line) (commands_of (place + 1) lines))
unfolding commands_of
next_is front place line lines all e = rw e refl

said_first : (front : List Command) (said : Option Command) (read : Result (List Command) ScriptFault) → with_front front (before (Ok said) read) ≡ with_front (front ++ option_to_list said) read
said_first front (Some c) read = regroup front c read
said_first front None read = rw (append-nil front) refl

-- a line is read
pub goes_on : (front : List Command) (place : ℕ) (line : List ℕ) (lines all : List (List ℕ)) (said : Option Command) (total : Result (List Command) ScriptFault) → all ≡ line ∷ lines → read_line place line ≡ Ok said
    → with_front front (commands_of place all) ≡ total → with_front (front ++ option_to_list said) (commands_of (place + 1) lines) ≡ total
goes_on front place line lines all said total e is so_far =
    sym (said_first front said (commands_of (place + 1) lines)) ∙ sym (ap (λ r. with_front front (before r (commands_of (place + 1) lines))) is) ∙ sym (next_is front place line lines all e) ∙ so_far

-- a bad line ends the reading
pub stops : (front : List Command) (place : ℕ) (line : List ℕ) (lines all : List (List ℕ)) (fault : ScriptFault) (total : Result (List Command) ScriptFault) → all ≡ line ∷ lines → Fails fault (read_line place line)
    → with_front front (commands_of place all) ≡ total → Fails fault total
stops front place line lines all (BadLine n) total e said so_far =
    sym so_far ∙ next_is front place line lines all e ∙ ap (λ r. with_front front (before r (commands_of (place + 1) lines))) said
stops front place line lines all Memory total e said so_far = tt

-- at the end each line was read
pub is_done : (front : List Command) (place : ℕ) (all : List (List ℕ)) (total : Result (List Command) ScriptFault) → all ≡ [] → with_front front (commands_of place all) ≡ total → total ≡ Ok front
unfolding commands_of
is_done front place all total e so_far =
    let one : with_front front (commands_of place all) ≡ Ok front = rw e (ap (λ (x : List Command). Ok x) (append-nil front)) in
    sym so_far ∙ one
