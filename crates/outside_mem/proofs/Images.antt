-- What is picked of a moment is an image.
use Rattle.std.proofs.Common.{◌≡◌, ℕ, ◌<◌, ◌≤◌, ◌+◌, ◌-◌, List, [], ◌∷◌, ◌++◌, ◌⊎◌, inl, inr, length, take, min, refl, sym, ◌∙◌, ap, subst, arith}
use Rattle.std.specs.Prelude.{None, Some, replicate, reverse, slice_index}
use Rattle.std.proofs.lemmas.Bool.Decides.{leb_tells}
use Rattle.std.proofs.lemmas.List.{length-replicate, reverse-append}
use Rattle.outside.specs.History.{History, IsImage, IsOutside, Moment, beginning}
use Rattle.outside_mem.specs.DiskHistory.{after_all, after_one, behind}
use Rattle.outside_mem.specs.DiskLaws.{IsRead, before_piece, behind_piece, overwritten_len, read_all, read_first}
use Rattle.outside_mem.specs.Moments.{IsImageAt, filled, filled_all, moment_after_all, moment_at, picked}
use Rattle.outside_mem.specs.declared.disk_log.DiskCall.{DiskCall}
use Rattle.outside_mem.specs.declared.moment.Pick.{Pick}
use Rattle.outside_mem.proofs.Moments.{moment_is, no_moment, now_one}

-- ---- ranges that are filled

filled_len : (byte : ℕ) (range : ℕ × ℕ) (bytes : List ℕ) → length (filled byte range bytes) ≡ length bytes
filled_len byte range bytes =
    let n = min range.1 (length bytes - range.0) in
    omega (arith, overwritten_len range.0 (replicate n byte) bytes, length-replicate n byte)

filled_kept : (byte : ℕ) (range : ℕ × ℕ) (bytes : List ℕ) (place : ℕ) → place < length bytes → (place < range.0) ⊎ (range.0 + range.1 ≤ place) → slice_index (filled byte range bytes) place ≡ slice_index bytes place
filled_kept byte range bytes place within apart =
    let n = min range.1 (length bytes - range.0) in
    elim apart [ inl below ↦ before_piece range.0 (replicate n byte) bytes place within below | inr above ↦ behind_piece range.0 (replicate n byte) bytes place within (omega (arith, above, length-replicate n byte)) ]

-- a range that was written since the last sync may hold any bytes
filled_image : (m : Moment) (byte : ℕ) (range : ℕ × ℕ) (bytes : List ℕ) → ((place : ℕ) → IsOutside m.written place → (place < range.0) ⊎ (range.0 + range.1 ≤ place)) → IsImage m bytes → IsImage m (filled byte range bytes)
filled_image m byte range bytes own image =
    let len = filled_len byte range bytes in
    record {
      no_shorter = omega (arith, len, image.no_shorter);
      no_longer = omega (arith, len, image.no_longer);
      kept = λ place within outside. filled_kept byte range bytes place (omega (arith, within, image.no_shorter)) (own place outside) ∙ image.kept place within outside;
    }

filled_all_image : (m : Moment) (byte : ℕ) (ranges : List (ℕ × ℕ)) (bytes : List ℕ) → ((place : ℕ) → IsOutside m.written place → IsOutside ranges place) → IsImage m bytes → IsImage m (filled_all byte ranges bytes)
filled_all_image m byte [] bytes own image = image
filled_all_image m byte (range ∷ ranges) bytes own image = filled_all_image m byte ranges (filled byte range bytes) (λ place outside. (own place outside).1) (filled_image m byte range bytes (λ place outside. (own place outside).0) image)

outside_both : (xs ys : List (ℕ × ℕ)) (place : ℕ) → IsOutside xs place → IsOutside ys place → IsOutside (xs ++ ys) place
outside_both [] ys place h k = k
outside_both (x ∷ xs) ys place h k = (h.0, outside_both xs ys place h.1 k)

outside_turned : (xs : List (ℕ × ℕ)) (place : ℕ) → IsOutside xs place → IsOutside (reverse xs) place
outside_turned [] place h = h
outside_turned (x ∷ xs) place h = subst (λ ranges. IsOutside ranges place) (sym (reverse-append (x ∷ []) xs)) (outside_both (reverse xs) (x ∷ []) place (outside_turned xs place h.1) (h.0, tt))

-- ---- what is picked

pub picked_image : (pick : Pick) (m : Moment) → IsRead m → IsImage m (picked pick m)
picked_image Pick.Old m read = record { no_shorter = omega arith; no_longer = omega (arith, read.no_shorter, read.no_longer); kept = λ place within outside. refl }
picked_image Pick.New m read = read
picked_image (Pick.Torn byte) m read = filled_all_image m byte (reverse m.written) m.held (outside_turned m.written) read

now_all : (bytes : List ℕ) (calls : List DiskCall) (h : History) → (after_all bytes calls h).now ≡ moment_after_all bytes calls h.now
now_all bytes [] h = refl
now_all bytes (call ∷ calls) h = now_all (behind bytes call) calls (after_one bytes call h) ∙ ap (moment_after_all (behind bytes call) calls) (now_one bytes call h)

some_same : {X : Type 0} (x y : X) → Some x ≡ Some y → x ≡ y
some_same x y e = cc

some_none : {X : Type 0} {Y : Type 0} (x : X) → Some x ≡ None → Y
some_none x e = cc

pub image_at : (pick : Pick) (bytes first : List ℕ) (calls : List DiskCall) (number : ℕ) (m : Moment) → Some m ≡ moment_at (after_all bytes calls (beginning first)) number → IsImageAt (after_all bytes calls (beginning first)) number (picked pick m)
image_at pick bytes first calls number m is =
    let start = beginning first in
    elim (leb_tells number (length calls)) [
      | inl within ↦
          let there = moment_is bytes first calls number within.1 in
          let replayed = moment_after_all bytes (take number calls) start.now in
          let read : IsRead replayed = subst IsRead (now_all bytes (take number calls) start) (read_all bytes (take number calls) start (read_first first)) in
          let same : replayed ≡ m = sym (some_same m replayed (is ∙ there)) in
          rw there (subst (λ n. IsImage replayed (picked pick n)) same (picked_image pick replayed read))
      | inr above ↦ some_none m (is ∙ no_moment bytes first calls number above.1)
    ]
