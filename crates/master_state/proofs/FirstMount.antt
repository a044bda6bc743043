-- The names over a fresh journal are those after the mount of `/`.
use Rattle.std.proofs.Common.{◌≡◌, ℕ, ◌≤◌, Bool, true, false, not, ◌&&◌, ◌||◌, nat_lt, nat_le, List, [], ◌∷◌, length, Option, Some, None, codes, refl, sym, ap, ◌∙◌, arith}
use Rattle.std.specs.List.{list_all}
use Rattle.std.specs.Str.{bytes_eq, is_utf8}
use Rattle.std.specs.Cmp.Lexicographic.{bytes_decides}
use Rattle.std.proofs.lemmas.Bool.{and_parts}
use Rattle.std.proofs.lemmas.Option.{same_Some}
use Rattle.fs_model.specs.declared.setup.Setup.{Setup}
use Rattle.fs_model.specs.PathForm.{is_name, is_name_byte, is_kept_name, key_text, is_key, is_plain_key, are_key_names, reserved_name}
use Rattle.fs_model.specs.Spelled.{is_setup, is_within, are_tiers}
use Rattle.fs_model.specs.Opening.{fresh_names}
use Rattle.fs_model.specs.State.{Names}
use Rattle.fs_model.specs.NodesEvents.{is_reserved}
use Rattle.fs_model.specs.Changes.{key_len, no_names}
use Rattle.fs_model.proofs.TextLengths.{key_len-key_text}
use Rattle.journal_entry.specs.declared.entry.Entry.{Entry}
use Rattle.journal_entry.specs.EntryText.{fits}
use Rattle.inode_tree.proofs.Numbers.{both}
use Rattle.master_state.specs.Effect.{taken}
use Rattle.master_state.proofs.Again.{counted}
use Rattle.master_state.proofs.Texts.{has_text, is_le, passes_le}

-- the key of a setup
root_key : (S : Setup) → is_setup S ≡ true → is_plain_key S.root ≡ true
root_key S h =
    let tiers = and_parts (is_within 1 67108864 S.block && is_within 1 1000000 S.patience && is_within 64 1073741824 S.area && is_plain_key S.root && is_within 1 16 S.stores && nat_le (length S.tiers) 64) (list_all are_tiers S.tiers) h in
    let workers = and_parts (is_within 1 67108864 S.block && is_within 1 1000000 S.patience && is_within 64 1073741824 S.area && is_plain_key S.root && is_within 1 16 S.stores) (nat_le (length S.tiers) 64) tiers.0 in
    let stores = and_parts (is_within 1 67108864 S.block && is_within 1 1000000 S.patience && is_within 64 1073741824 S.area && is_plain_key S.root) (is_within 1 16 S.stores) workers.0 in
    (and_parts (is_within 1 67108864 S.block && is_within 1 1000000 S.patience && is_within 64 1073741824 S.area) (is_plain_key S.root) stores.0).1

key_names : (k : List (List ℕ)) → list_all is_name k ≡ true → are_key_names k ≡ true
key_names [] h = refl
key_names (n ∷ ns) h =
    let split = and_parts (is_name n) (list_all is_name ns) h in
    both (is_name n || bytes_eq n reserved_name) (list_all is_name ns) (ap (λ b. b || bytes_eq n reserved_name) split.0) split.1

-- what a user may give is a key
pub plain_is_key : (k : List (List ℕ)) → is_plain_key k ≡ true → is_key k ≡ true
plain_is_key k h =
    let split = and_parts (list_all is_name k) (nat_le (length (key_text k)) 4096) h in
    let short = is_le (length (key_text k)) 4096 split.1 in
    both (are_key_names k) (nat_le (length (key_text k)) 8192) (key_names k split.0) (passes_le (length (key_text k)) 8192 (omega (arith, short)))

-- what is read as a key that is there is it
pub key_read : (found : Option (List (List ℕ))) (key k : List (List ℕ)) → found ≡ Some k → found ≡ Some key → key ≡ k
key_read found key k is own = same_Some key k (sym own ∙ is)

pub not_none : (found : Option (List (List ℕ))) (k : List (List ℕ)) → found ≡ Some k → found ≡ None → ⊥
not_none found k is none = cc

short_key : (k : List (List ℕ)) → is_plain_key k ≡ true → key_len k ≤ 4096
short_key k h =
    let short = is_le (length (key_text k)) 4096 (and_parts (list_all is_name k) (nat_le (length (key_text k)) 4096) h).1 in
    omega (arith, short, key_len-key_text k)

-- the mount of `/` has a text
pub root_text : (k : List (List ℕ)) → is_plain_key k ≡ true → fits (Entry.Mount [] 1 k 0) ≡ true
root_text k h = let short = short_key k h in has_text (Entry.Mount [] 1 k 0) refl (omega (arith, short))

-- no name is the reserved one
not_reserved : (k : List (List ℕ)) → list_all is_name k ≡ true → not (is_reserved k) ≡ true
not_reserved [] h = refl
not_reserved (n ∷ ns) h =
    let name = (and_parts (is_name n) (list_all is_name ns) h).0 in
    by_test (bytes_eq n (codes ".tierfs")) refl (and_parts (nat_lt 0 (length n) && nat_le (length n) 255 && list_all is_name_byte n && is_utf8 n) (not (is_kept_name n)) name).1
  where
    by_test : (b : Bool) → bytes_eq n (codes ".tierfs") ≡ b → not (is_kept_name n) ≡ true → not b ≡ true
    by_test true same free = ap (λ x. not (is_kept_name x)) (sym ((bytes_decides n (codes ".tierfs")).0 same)) ∙ free
    by_test false same free = refl

-- it counts where nothing is mounted
pub root_counts : (S : Setup) → is_setup S ≡ true → taken (Entry.Mount [] 1 S.root 0) no_names ≡ fresh_names S
root_counts S h =
    let plain = root_key S h in
    let names = (and_parts (list_all is_name S.root) (nat_le (length (key_text S.root)) 4096) plain).0 in
    let short = passes_le (key_len S.root) 4096 (short_key S.root plain) in
    let may : (not (is_reserved S.root) && nat_le (key_len S.root) 4096) ≡ true = both (not (is_reserved S.root)) (nat_le (key_len S.root) 4096) (not_reserved S.root names) short in
    counted _ _ _ (both (not (is_reserved S.root) && nat_le (key_len S.root) 4096 && true) true (both (not (is_reserved S.root) && nat_le (key_len S.root) 4096) true may refl) refl)

-- so it is with any entry that is it, and any first names
pub root_taken : (S : Setup) (e : Entry) (N M : Names) → is_setup S ≡ true → e ≡ Entry.Mount [] 1 S.root 0 → N ≡ no_names → M ≡ taken e N → M ≡ fresh_names S
root_taken S e N M h is first made = made ∙ (λ i. taken (is i) (first i)) ∙ root_counts S h

pub root_fits : (S : Setup) → is_setup S ≡ true → fits (Entry.Mount [] 1 S.root 0) ≡ true
root_fits S h = root_text S.root (root_key S h)
