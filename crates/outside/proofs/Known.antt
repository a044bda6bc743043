-- What several calls of a source gave, and what several calls of a sink took.
use Rattle.std.proofs.Common.{◌≡◌, ℕ, ◌+◌, ◌-◌, length, List, [], ◌++◌, take, drop, Option, Some, None, refl, sym, ap, ◌∙◌, subst, append_assoc, append-nil}
use Rattle.std.proofs.Math.Seq.{take-add}
use Rattle.std.proofs.lemmas.List.{take_rest}
use Rattle.std.specs.Io.KnownBytes.{append_known, prepend_known, IsAtEnd}
use Rattle.outside.specs.Streams.{Gives, GivesAll, Takes}

-- nothing was taken
pub Takes-nil : (a : Option (List ℕ)) → Takes a a []
Takes-nil None = refl
Takes-nil (Some x) = ap Some (sym (append-nil x))

-- bytes that are appended in two parts
pub append_known-append : (a : Option (List ℕ)) (bs cs : List ℕ) → append_known (append_known a bs) cs ≡ append_known a (bs ++ cs)
append_known-append None bs cs = refl
append_known-append (Some x) bs cs = ap Some (append_assoc x bs cs)

-- some bytes were taken, and then others
pub Takes-trans : (a b c : Option (List ℕ)) (bs cs : List ℕ) → Takes a b bs → Takes b c cs → Takes a c (bs ++ cs)
Takes-trans a b c bs cs p q = q ∙ ap (λ o. append_known o cs) p ∙ append_known-append a bs cs

-- the first i bytes of a text, and then n more
pub Takes-more : (a b c : Option (List ℕ)) (text : List ℕ) (i n : ℕ) → Takes a b (take i text) → Takes b c (take n (drop i text)) → Takes a c (take (i + n) text)
Takes-more a b c text i n p q = subst (λ bs. Takes a c bs) (sym (take-add i n text)) (Takes-trans a b c (take i text) (take n (drop i text)) p q)

-- the same where the rest is what `&text[i..]` gives
pub Takes-on : (a b c : Option (List ℕ)) (text : List ℕ) (i n : ℕ) → Takes a b (take i text) → Takes b c (take n (take (length text - i) (drop i text))) → Takes a c (take (i + n) text)
Takes-on a b c text i n p q = Takes-more a b c text i n p (subst (λ bs. Takes b c (take n bs)) (take_rest text i) q)

-- nothing was given
pub Gives-nil : (a : Option (List ℕ)) → Gives a a []
Gives-nil None = refl
Gives-nil (Some x) = refl

-- bytes that stand in front in two parts
pub prepend_known-append : (a : Option (List ℕ)) (bs cs : List ℕ) → prepend_known bs (prepend_known cs a) ≡ prepend_known (bs ++ cs) a
prepend_known-append None bs cs = refl
prepend_known-append (Some x) bs cs = ap Some (sym (append_assoc bs cs x))

-- some bytes were given, and then others
pub Gives-trans : (a b c : Option (List ℕ)) (bs cs : List ℕ) → Gives a b bs → Gives b c cs → Gives a c (bs ++ cs)
Gives-trans a b c bs cs p q = p ∙ ap (λ o. prepend_known bs o) q ∙ prepend_known-append c bs cs

-- a source that is at its end after these bytes gave all that was left
pub Gives-ended : (a b : Option (List ℕ)) (bs : List ℕ) → Gives a b bs → IsAtEnd b → GivesAll a b bs
Gives-ended a None bs p q = subst (λ o. GivesAll o None bs) (sym p) (record { all = tt; ended = refl })
Gives-ended a (Some x) bs p q =
    let ended : bs ≡ bs ++ x = sym (append-nil bs) ∙ ap (λ l. bs ++ l) (sym q) in
    subst (λ o. GivesAll o (Some x) bs) (sym p) (record { all = ended; ended = ap Some q })
