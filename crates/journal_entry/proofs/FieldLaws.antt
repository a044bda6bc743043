-- Each field that is read is the field that was written, and what was written is read again.
use Rattle.std.proofs.Common.{◌≡◌, ℕ, zero, suc, ◌^◌, ◌<◌, ◌≤◌, Bool, true, false, ltb, leb, ◌&&◌, List, [], ◌∷◌, ◌++◌, length, take, drop, Some, Result, Ok, Err, refl, sym, ap, subst, ◌∙◌, append_assoc, arith}
use Rattle.std.specs.Int.{Width, w16, w32, w64, byte_len, from_be_bytes, to_be_bytes}
use Rattle.std.specs.List.{flat_map}
use Rattle.std.specs.Result.{result_ok}
use Rattle.std.proofs.lemmas.Bool.{ltb-false, le-ltb, leb-true}
use Rattle.std.proofs.lemmas.List.{take_at, drop_at, take-append-drop, length-append, length-take}
use Rattle.std.proofs.lemmas.Nat.{be_bytes_2, be_bytes_4, be_bytes_8, from_be_bytes-to_be_bytes_2, from_be_bytes-to_be_bytes_4, from_be_bytes-to_be_bytes_8}
use Rattle.fs_model.specs.PathForm.{path_text, key_text, is_path, is_key, are_key_names}
use Rattle.fs_model.specs.PathText.{read_path}
use Rattle.fs_model.specs.KeyText.{read_key}
use Rattle.fs_model.specs.declared.path.PathFault.{PathFault}
use Rattle.fs_model.specs.declared.reply.Stored.{Stored}
use Rattle.fs_model.specs.declared.change.PlanKind.{PlanKind}
use Rattle.fs_model.proofs.Grammar.{read_found, read_again, is_short}
use Rattle.fs_model.proofs.KeyGrammar.{key_found, key_again}
use Rattle.journal_entry.specs.Fields.{two_bytes, four_bytes, eight_bytes, counted, path_field, key_field, workers_field, flag_byte, stored_byte, plan_kind_byte, node_byte, is_file_id, is_plan, is_plan_or_none, is_next, is_worker, are_above, are_workers}
use Rattle.journal_entry.specs.Reading.{◌>>=◌, tested, number_at, byte_at, part_at, counted_at, path_at, key_at, flag_of, flag_at, node_of, node_at, stored_of, stored_at, plan_kind_of, plan_kind_at, len_at, store_at, id_at, plan_at, plan_or_none_at, next_at, worker_at, above_at, workers_from, workers_at}
use Rattle.journal_entry.proofs.Parts.{IsBytes, IsBytes-drop, IsBytes-take, IsBytes-rest, bind_some, kept_out, some_is, first_true, second_true, both, Takes, Takes-then, Reads, tested_reads, Means, meaning_reads}

-- ---- numbers

pub record IsWide (w : Width) (limit : ℕ) : Type 0 where
  pub len : (n : ℕ) → length (to_be_bytes w n) ≡ byte_len w
  pub back : (bytes : List ℕ) → length bytes ≡ byte_len w → IsBytes bytes → to_be_bytes w (from_be_bytes w bytes) ≡ bytes
  pub again : (n : ℕ) → n < limit → from_be_bytes w (to_be_bytes w n) ≡ n
  pub below : (bytes : List ℕ) → IsBytes bytes → from_be_bytes w bytes < limit

pub wide16 : IsWide w16 (2 ^ 16)
wide16 = record {
  len = λ n. refl;
  back = λ bytes len fits. be_bytes_2 bytes _ len fits refl;
  again = λ n lt. from_be_bytes-to_be_bytes_2 n lt;
  below = λ bytes fits. omega (arith, fits 0, fits 1);
}

pub wide32 : IsWide w32 (2 ^ 32)
wide32 = record {
  len = λ n. refl;
  back = λ bytes len fits. be_bytes_4 bytes _ len fits refl;
  again = λ n lt. from_be_bytes-to_be_bytes_4 n lt;
  below = λ bytes fits. omega (arith, fits 0, fits 1, fits 2, fits 3);
}

pub wide64 : IsWide w64 (2 ^ 64)
wide64 = record {
  len = λ n. refl;
  back = λ bytes len fits. be_bytes_8 bytes _ len fits refl;
  again = λ n lt. from_be_bytes-to_be_bytes_8 n lt;
  below = λ bytes fits. omega (arith, fits 0, fits 1, fits 2, fits 3, fits 4, fits 5, fits 6, fits 7);
}

pub number_reads : (w : Width) (limit : ℕ) → IsWide w limit → Reads ℕ (to_be_bytes w) (λ n. n < limit) (number_at w)
number_reads w limit wide = record {
  takes = λ bytes n rest fits e.
      let g = kept_out (ltb (length bytes) (byte_len w)) (from_be_bytes w (take (byte_len w) bytes), drop (byte_len w) bytes) (n, rest) e in
      let long : byte_len w ≤ length bytes = ltb-false _ _ g.0 in
      let n-is : from_be_bytes w (take (byte_len w) bytes) ≡ n = ap (λ (p : ℕ × List ℕ). p.0) g.1 in
      let rest-is : drop (byte_len w) bytes ≡ rest = ap (λ (p : ℕ × List ℕ). p.1) g.1 in
      let front : to_be_bytes w n ≡ take (byte_len w) bytes = rw (← n-is) (wide.back (take (byte_len w) bytes) (omega (arith, length-take (byte_len w) bytes)) (IsBytes-take (byte_len w) bytes fits)) in
      (record { parts = rw (front, ← rest-is) (sym (take-append-drop (byte_len w) bytes)); rest_fits = rw (← rest-is) (IsBytes-drop (byte_len w) bytes fits) }, rw (← n-is) (wide.below (take (byte_len w) bytes) (IsBytes-take (byte_len w) bytes fits)));
  again = λ n rest lt.
      let len = wide.len n in
      let long : ltb (length (to_be_bytes w n ++ rest)) (byte_len w) ≡ false = le-ltb _ _ (omega (arith, length-append (to_be_bytes w n) rest)) in
      rw (long, take_at (to_be_bytes w n) rest (byte_len w) len, drop_at (to_be_bytes w n) rest (byte_len w) len, wide.again n lt) refl;
}

pub number16 : Reads ℕ two_bytes (λ n. n < 2 ^ 16) (number_at w16)
number16 = number_reads w16 (2 ^ 16) wide16

pub number32 : Reads ℕ four_bytes (λ n. n < 2 ^ 32) (number_at w32)
number32 = number_reads w32 (2 ^ 32) wide32

pub number64 : Reads ℕ eight_bytes (λ n. n < 2 ^ 64) (number_at w64)
number64 = number_reads w64 (2 ^ 64) wide64

pub len_reads : Reads ℕ eight_bytes (λ n. n < 2 ^ 64) len_at
unfolding len_at
len_reads = number64

pub store_reads : Reads ℕ four_bytes (λ n. n < 2 ^ 32) store_at
unfolding store_at
store_reads = number32

pub id_reads : Reads ℕ eight_bytes (λ n. (n < 2 ^ 64) × (is_file_id n ≡ true)) id_at
unfolding id_at
id_reads = tested_reads is_file_id number64

pub plan_reads : Reads ℕ eight_bytes (λ n. (n < 2 ^ 64) × (is_plan n ≡ true)) plan_at
unfolding plan_at
plan_reads = tested_reads is_plan number64

pub plan_or_none_reads : Reads ℕ eight_bytes (λ n. (n < 2 ^ 64) × (is_plan_or_none n ≡ true)) plan_or_none_at
unfolding plan_or_none_at
plan_or_none_reads = tested_reads is_plan_or_none number64

pub next_reads : Reads ℕ eight_bytes (λ n. (n < 2 ^ 64) × (is_next n ≡ true)) next_at
unfolding next_at
next_reads = tested_reads is_next number64

pub worker_reads : Reads ℕ four_bytes (λ n. (n < 2 ^ 32) × (is_worker n ≡ true)) worker_at
unfolding worker_at
worker_reads = tested_reads is_worker number32

-- ---- one byte

abbrev pub one_byte : ℕ → List ℕ
one_byte b = b ∷ []

abbrev Always : {X : Type 0} → X → Type 0
Always x = Unit {0}

byte_reads : Reads ℕ one_byte Always byte_at
byte_reads = record {
  takes = takes;
  again = λ b rest h. refl;
}
  where
    takes : (bytes : List ℕ) (b : ℕ) (rest : List ℕ) → IsBytes bytes → byte_at bytes ≡ Some (b, rest) → Takes bytes (one_byte b) rest × Always b
    takes [] b rest fits e = absurd cc
    takes (c ∷ bytes) b rest fits e =
        subst (λ (z : ℕ × List ℕ). Takes (c ∷ bytes) (one_byte z.0) z.1 × Always z.0) (some_is (c, bytes) (b, rest) e) (record { parts = refl; rest_fits = IsBytes-rest c bytes fits }, tt)

flag_means : Means ℕ Bool one_byte Always flag_of (λ b. flag_byte b ∷ []) Always
flag_means = record { found = found; again = again }
  where
    found : (b : ℕ) (y : Bool) → Always b → flag_of b ≡ Some y → (one_byte b ≡ flag_byte y ∷ []) × Always y
    found zero true h e = absurd cc
    found zero false h e = (refl, tt)
    found (suc zero) true h e = (refl, tt)
    found (suc zero) false h e = absurd cc
    found (suc (suc b)) y h e = absurd cc

    again : (y : Bool) → Always y → (b : ℕ) × Always b × (flag_of b ≡ Some y) × (one_byte b ≡ flag_byte y ∷ [])
    again false h = (0, tt, refl, refl)
    again true h = (1, tt, refl, refl)

pub flag_reads : Reads Bool (λ b. flag_byte b ∷ []) Always flag_at
unfolding flag_at
flag_reads = meaning_reads byte_reads flag_means

node_means : Means ℕ Bool one_byte Always node_of (λ b. node_byte b ∷ []) Always
node_means = record { found = found; again = again }
  where
    found : (b : ℕ) (y : Bool) → Always b → node_of b ≡ Some y → (one_byte b ≡ node_byte y ∷ []) × Always y
    found zero true h e = (refl, tt)
    found zero false h e = absurd cc
    found (suc zero) true h e = absurd cc
    found (suc zero) false h e = (refl, tt)
    found (suc (suc b)) y h e = absurd cc

    again : (y : Bool) → Always y → (b : ℕ) × Always b × (node_of b ≡ Some y) × (one_byte b ≡ node_byte y ∷ [])
    again true h = (0, tt, refl, refl)
    again false h = (1, tt, refl, refl)

pub node_reads : Reads Bool (λ b. node_byte b ∷ []) Always node_at
unfolding node_at
node_reads = meaning_reads byte_reads node_means

stored_means : Means ℕ Stored one_byte Always stored_of (λ s. stored_byte s ∷ []) Always
stored_means = record { found = found; again = again }
  where
    found : (b : ℕ) (y : Stored) → Always b → stored_of b ≡ Some y → (one_byte b ≡ stored_byte y ∷ []) × Always y
    found zero y h e = (ap (λ s. stored_byte s ∷ []) (some_is Stored.No y e), tt)
    found (suc zero) y h e = (ap (λ s. stored_byte s ∷ []) (some_is Stored.Wanted y e), tt)
    found (suc (suc zero)) y h e = (ap (λ s. stored_byte s ∷ []) (some_is Stored.Yes y e), tt)
    found (suc (suc (suc b))) y h e = absurd cc

    again : (y : Stored) → Always y → (b : ℕ) × Always b × (stored_of b ≡ Some y) × (one_byte b ≡ stored_byte y ∷ [])
    again Stored.No h = (0, tt, refl, refl)
    again Stored.Wanted h = (1, tt, refl, refl)
    again Stored.Yes h = (2, tt, refl, refl)

pub stored_reads : Reads Stored (λ s. stored_byte s ∷ []) Always stored_at
unfolding stored_at
stored_reads = meaning_reads byte_reads stored_means

plan_kind_means : Means ℕ PlanKind one_byte Always plan_kind_of (λ k. plan_kind_byte k ∷ []) Always
plan_kind_means = record { found = found; again = again }
  where
    found : (b : ℕ) (y : PlanKind) → Always b → plan_kind_of b ≡ Some y → (one_byte b ≡ plan_kind_byte y ∷ []) × Always y
    found zero y h e = absurd cc
    found (suc zero) y h e = (ap (λ k. plan_kind_byte k ∷ []) (some_is PlanKind.Move y e), tt)
    found (suc (suc zero)) y h e = (ap (λ k. plan_kind_byte k ∷ []) (some_is PlanKind.Remove y e), tt)
    found (suc (suc (suc zero))) y h e = (ap (λ k. plan_kind_byte k ∷ []) (some_is PlanKind.Publish y e), tt)
    found (suc (suc (suc (suc zero)))) y h e = (ap (λ k. plan_kind_byte k ∷ []) (some_is PlanKind.Load y e), tt)
    found (suc (suc (suc (suc (suc b))))) y h e = absurd cc

    again : (y : PlanKind) → Always y → (b : ℕ) × Always b × (plan_kind_of b ≡ Some y) × (one_byte b ≡ plan_kind_byte y ∷ [])
    again PlanKind.Move h = (1, tt, refl, refl)
    again PlanKind.Remove h = (2, tt, refl, refl)
    again PlanKind.Publish h = (3, tt, refl, refl)
    again PlanKind.Load h = (4, tt, refl, refl)

pub plan_kind_reads : Reads PlanKind (λ k. plan_kind_byte k ∷ []) Always plan_kind_at
unfolding plan_kind_at
plan_kind_reads = meaning_reads byte_reads plan_kind_means

-- ---- texts

-- what is cut off has the length, and the two parts are the bytes
pub part_found : (n : ℕ) (bytes part rest : List ℕ) → part_at n bytes ≡ Some (part, rest) → (bytes ≡ part ++ rest) × (length part ≡ n)
part_found n bytes part rest e =
    let g = kept_out (ltb (length bytes) n) (take n bytes, drop n bytes) (part, rest) e in
    let long : n ≤ length bytes = ltb-false _ _ g.0 in
    subst (λ (p : List ℕ × List ℕ). (bytes ≡ p.0 ++ p.1) × (length p.0 ≡ n)) g.1 (sym (take-append-drop n bytes), omega (arith, length-take n bytes))

pub part_again : (part rest : List ℕ) → part_at (length part) (part ++ rest) ≡ Some (part, rest)
part_again part rest =
    let long : ltb (length (part ++ rest)) (length part) ≡ false = le-ltb _ _ (omega (arith, length-append part rest)) in
    rw (long, take_at part rest (length part) refl, drop_at part rest (length part) refl) refl

-- the bytes after a part of some bytes are bytes
pub IsBytes-after : (bytes part rest : List ℕ) → bytes ≡ part ++ rest → IsBytes bytes → IsBytes rest
IsBytes-after bytes part rest e fits = subst IsBytes (ap (drop (length part)) e ∙ drop_at part rest (length part) refl) (IsBytes-drop (length part) bytes fits)

pub IsBytes-front : (bytes part rest : List ℕ) → bytes ≡ part ++ rest → IsBytes bytes → IsBytes part
IsBytes-front bytes part rest e fits = subst IsBytes (ap (take (length part)) e ∙ take_at part rest (length part) refl) (IsBytes-take (length part) bytes fits)

counted_reads : Reads (List ℕ) counted (λ text. length text < 2 ^ 16) counted_at
unfolding counted_at
counted_reads = record {
  takes = λ bytes text rest fits e.
      let a = bind_some (number_at w16 bytes) (λ n. part_at n.0 n.1) (text, rest) e in
      let one = number16.takes bytes a.0.0 a.0.1 fits a.1 in
      let two = part_found a.0.0 a.0.1 text rest a.2 in
      let second : Takes a.0.1 text rest = record { parts = two.0; rest_fits = IsBytes-after a.0.1 text rest two.0 one.0.rest_fits } in
      let whole = Takes-then bytes (two_bytes a.0.0) a.0.1 text rest one.0 second in
      (subst (λ (n : ℕ). Takes bytes (two_bytes n ++ text) rest) (sym two.1) whole, subst (λ (n : ℕ). n < 2 ^ 16) (sym two.1) one.1);
  again = λ text rest lt. rw (number16.again (length text) (text ++ rest) lt, part_again text rest) refl;
}

ok_of : (r : Result (List (List ℕ)) PathFault) (p : List (List ℕ)) → result_ok r ≡ Some p → r ≡ Ok p
ok_of (Ok q) p e = ap (λ (x : List (List ℕ)). Ok x) (some_is q p e)
ok_of (Err f) p e = absurd cc

path_means : Means (List ℕ) (List (List ℕ)) counted (λ text. length text < 2 ^ 16) (λ text. result_ok (read_path text)) path_field (λ p. is_path p ≡ true)
path_means = record {
  found = λ text p lt e. let r = read_found text p (ok_of (read_path text) p e) in (ap counted r.1, r.0);
  again = λ p h. (path_text p, omega (arith, is_short p h), ap result_ok (read_again p h), refl);
}

pub path_reads : Reads (List (List ℕ)) path_field (λ p. is_path p ≡ true) path_at
unfolding path_at
path_reads = meaning_reads counted_reads path_means

key_short : (k : List (List ℕ)) → is_key k ≡ true → length (key_text k) ≤ 8192
key_short k h = leb-true (length (key_text k)) 8192 (second_true (are_key_names k) (leb (length (key_text k)) 8192) h)

key_means : Means (List ℕ) (List (List ℕ)) counted (λ text. length text < 2 ^ 16) read_key key_field (λ k. is_key k ≡ true)
key_means = record {
  found = λ text k lt e. let r = key_found text k e in (ap counted r.1, r.0);
  again = λ k h. (key_text k, omega (arith, key_short k h), key_again k h, refl);
}

pub key_reads : Reads (List (List ℕ)) key_field (λ k. is_key k ≡ true) key_at
unfolding key_at
key_reads = meaning_reads counted_reads key_means

-- ---- workers

above_reads : (last : ℕ) → Reads ℕ four_bytes (λ n. (n < 2 ^ 32) × ((ltb last n && leb n 64) ≡ true)) (above_at last)
unfolding above_at
above_reads last = tested_reads (λ n. ltb last n && leb n 64) number32

workers_found : (n last : ℕ) (bytes ws rest : List ℕ) → IsBytes bytes → workers_from n last bytes ≡ Some (ws, rest) → Takes bytes (flat_map four_bytes ws) rest × (length ws ≡ n) × (are_above last ws ≡ true)
unfolding workers_from
workers_found zero last bytes ws rest fits e =
    subst (λ (z : List ℕ × List ℕ). Takes bytes (flat_map four_bytes z.0) z.1 × (length z.0 ≡ 0) × (are_above last z.0 ≡ true)) (some_is ([], bytes) (ws, rest) e) (record { parts = refl; rest_fits = fits }, refl, refl)
workers_found (suc n) last bytes ws rest fits e =
    let a = bind_some (above_at last bytes) (λ w. workers_from n w.0 w.1 >>= λ ws. Some (w.0 ∷ ws.0, ws.1)) (ws, rest) e in
    let b = bind_some (workers_from n a.0.0 a.0.1) (λ ws. Some (a.0.0 ∷ ws.0, ws.1)) (ws, rest) a.2 in
    let one = (above_reads last).takes bytes a.0.0 a.0.1 fits a.1 in
    let two = workers_found n a.0.0 a.0.1 b.0.0 b.0.1 one.0.rest_fits b.1 in
    subst (λ (z : List ℕ × List ℕ). Takes bytes (flat_map four_bytes z.0) z.1 × (length z.0 ≡ suc n) × (are_above last z.0 ≡ true)) (some_is (a.0.0 ∷ b.0.0, b.0.1) (ws, rest) b.2)
    (Takes-then bytes (four_bytes a.0.0) a.0.1 (flat_map four_bytes b.0.0) b.0.1 one.0 two.0, ap suc two.1, both (ltb last a.0.0 && leb a.0.0 64) (are_above a.0.0 b.0.0) one.1.1 two.2)

workers_again : (ws : List ℕ) (last : ℕ) (rest : List ℕ) → are_above last ws ≡ true → workers_from (length ws) last (flat_map four_bytes ws ++ rest) ≡ Some (ws, rest)
unfolding workers_from
workers_again [] last rest h = refl
workers_again (w ∷ ws) last rest h =
    let here = first_true (ltb last w && leb w 64) (are_above w ws) h in
    let few : w ≤ 64 = leb-true w 64 (second_true (ltb last w) (leb w 64) here) in
    let regrouped : flat_map four_bytes (w ∷ ws) ++ rest ≡ four_bytes w ++ (flat_map four_bytes ws ++ rest) = append_assoc (four_bytes w) (flat_map four_bytes ws) rest in
    ap (workers_from (suc (length ws)) last) regrouped
    ∙ rw ((above_reads last).again w (flat_map four_bytes ws ++ rest) (omega arith, here), workers_again ws w rest (second_true (ltb last w && leb w 64) (are_above w ws) h)) refl

pub workers_reads : Reads (List ℕ) workers_field (λ ws. are_workers ws ≡ true) workers_at
unfolding workers_at
workers_reads = record {
  takes = λ bytes ws rest fits e.
      let counts : Reads ℕ two_bytes (λ n. (n < 2 ^ 16) × ((ltb 0 n && leb n 64) ≡ true)) (tested (λ n. ltb 0 n && leb n 64) (number_at w16)) = tested_reads (λ n. ltb 0 n && leb n 64) number16 in
      let a = bind_some (tested (λ n. ltb 0 n && leb n 64) (number_at w16) bytes) (λ n. workers_from n.0 0 n.1) (ws, rest) e in
      let one = counts.takes bytes a.0.0 a.0.1 fits a.1 in
      let two = workers_found a.0.0 0 a.0.1 ws rest one.0.rest_fits a.2 in
      let whole = Takes-then bytes (two_bytes a.0.0) a.0.1 (flat_map four_bytes ws) rest one.0 two.0 in
      let many : (ltb 0 (length ws) && leb (length ws) 64) ≡ true = subst (λ (n : ℕ). (ltb 0 n && leb n 64) ≡ true) (sym two.1) one.1.1 in
      (subst (λ (n : ℕ). Takes bytes (two_bytes n ++ flat_map four_bytes ws) rest) (sym two.1) whole, both (ltb 0 (length ws) && leb (length ws) 64) (are_above 0 ws) many two.2);
  again = λ ws rest h.
      let counts : Reads ℕ two_bytes (λ n. (n < 2 ^ 16) × ((ltb 0 n && leb n 64) ≡ true)) (tested (λ n. ltb 0 n && leb n 64) (number_at w16)) = tested_reads (λ n. ltb 0 n && leb n 64) number16 in
      let many = first_true (ltb 0 (length ws) && leb (length ws) 64) (are_above 0 ws) h in
      let few : length ws ≤ 64 = leb-true (length ws) 64 (second_true (ltb 0 (length ws)) (leb (length ws) 64) many) in
      let regrouped : workers_field ws ++ rest ≡ two_bytes (length ws) ++ (flat_map four_bytes ws ++ rest) = append_assoc (two_bytes (length ws)) (flat_map four_bytes ws) rest in
      ap workers_at regrouped ∙ rw (counts.again (length ws) (flat_map four_bytes ws ++ rest) (omega arith, many), workers_again ws 0 rest (second_true (ltb 0 (length ws) && leb (length ws) 64) (are_above 0 ws) h)) refl;
}
