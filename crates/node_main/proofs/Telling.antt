-- What std promises of reads and writes, of types whose values tell all or none.
use Rattle.std.proofs.Common.{◌≡◌, ℕ, List, take, Option, Some, None, is_some, refl, sym, ap, ◌∙◌, append-nil}
use Rattle.std.specs.Io.KnownBytes.{Appends, Consumes, Keeps}
use Rattle.outside.specs.Streams.{Gives, Takes}

pub gives : (old new : Option (List ℕ)) (bytes : List ℕ) → is_some old ≡ is_some new → Consumes old new bytes → Gives old new bytes
gives None None bytes e h = refl
gives None (Some ys) bytes e h = cc
gives (Some xs) None bytes e h = absurd h
gives (Some xs) (Some ys) bytes e h = ap Some h

pub takes : (old new : Option (List ℕ)) (bytes : List ℕ) → is_some old ≡ is_some new → Appends old new bytes → Takes old new bytes
takes None None bytes e h = refl
takes None (Some ys) bytes e h = cc
takes (Some xs) None bytes e h = absurd h
takes (Some xs) (Some ys) bytes e h = ap Some h

pub keeps : (old new : Option (List ℕ)) → is_some old ≡ is_some new → Keeps old new → new ≡ old
keeps None None e h = refl
keeps None (Some ys) e h = cc
keeps (Some xs) None e h = absurd h
keeps (Some xs) (Some ys) e h = ap Some h

-- where nothing was moved, none of a piece was taken
pub takes_none : (old new : Option (List ℕ)) (piece : List ℕ) → new ≡ old → Takes old new (take 0 piece)
takes_none None None piece e = refl
takes_none None (Some ys) piece e = cc
takes_none (Some xs) None piece e = cc
takes_none (Some xs) (Some ys) piece e = e ∙ ap Some (sym (append-nil xs))
