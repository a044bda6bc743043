-- Names stay plain whatever entry comes.
use Rattle.std.proofs.Common.{◌≡◌, ℕ, ◌+◌, ◌^◌, ◌≤◌, max, Bool, true, false, cond, not, ◌&&◌, ◌||◌, ◌==◌, nat_lt, nat_le, nat_eq, List, [], ◌∷◌, length, Option, Some, None, is_some, is_none, refl, sym, ap, ◌∙◌, subst, arith}
use Rattle.std.specs.List.{list_all, list_any}
use Rattle.std.proofs.lemmas.Bool.{and_parts}
use Rattle.fs_model.specs.declared.path.Path.{Path}
use Rattle.fs_model.specs.declared.prefix.Prefix.{Prefix}
use Rattle.fs_model.specs.declared.reply.Stored.{Stored}
use Rattle.fs_model.specs.PathForm.{is_path}
use Rattle.fs_model.specs.Words.{path_len, under, put_in_order}
use Rattle.fs_model.specs.State.{Names, Node, NodeRow, MountRow, File}
use Rattle.fs_model.specs.Lookups.{row_of, stored_is_yes, is_empty}
use Rattle.fs_model.specs.NodesEvents.{is_reserved}
use Rattle.fs_model.specs.Changes.{put_node, key_len, write_locks, change_file, no_names}
use Rattle.fs_model.proofs.ShortPaths.{path_len-short}
use Rattle.journal_entry.specs.declared.entry.Entry.{Entry}
use Rattle.journal_entry.specs.Fields.{is_file_id, is_next, is_no, is_root}
use Rattle.journal_entry.specs.EntryText.{is_entry, has_form, has_bounds, fits, body}
use Rattle.inode_tree.specs.Rows.{ids_of, differ}
use Rattle.inode_tree.proofs.Numbers.{both, new_differs}
use Rattle.master_state.specs.Walks.{has_place}
use Rattle.master_state.specs.Fits.{fits_in, is_new_id, is_mountable, may_begin}
use Rattle.master_state.specs.Effect.{effect, counts_in, taken, after_entries}
use Rattle.master_state.specs.Plain.{IsPlain, is_plain_file}
use Rattle.master_state.proofs.Again.{root_first}
use Rattle.master_state.proofs.Added.{stays_with, stays_risen}
use Rattle.master_state.proofs.Changed.{stays_changed}

passed_over : (b : Bool) (M N : Names) → IsPlain N → (b ≡ true → IsPlain M) → IsPlain (cond b M N)
passed_over true M N plain more = more refl
passed_over false M N plain more = plain

-- what an entry's text says of it
has_text : (e : Entry) → is_entry e ≡ true → (has_form e ≡ true) × (has_bounds e ≡ true)
has_text e h =
    let split = and_parts (has_form e) (fits e) h in
    (split.0, (and_parts (has_bounds e) (nat_le (length (body e)) 8248) split.1).0)

passes_le : (m n : ℕ) → m ≤ n → nat_le m n ≡ true
passes_le m n le = grind (arith, le)

short : (p : Path) → is_path p ≡ true → nat_le (path_len p) 4096 ≡ true
short p h = passes_le (path_len p) 4096 (path_len-short p h)

next_after : (id next : ℕ) → is_file_id id ≡ true → is_next next ≡ true → is_next (max next (id + 1)) ≡ true
next_after id next h k =
    let low = and_parts (nat_lt 0 id) (nat_lt id (2 ^ 63)) h in
    let high = and_parts (nat_lt 0 next) (nat_le next (2 ^ 63)) k in
    grind (arith, low.0, low.1, high.0, high.1)

next_of : (id next : ℕ) → is_next id ≡ true → is_next next ≡ true → is_next (max next id) ≡ true
next_of id next h k =
    let low = and_parts (nat_lt 0 id) (nat_le id (2 ^ 63)) h in
    let high = and_parts (nat_lt 0 next) (nat_le next (2 ^ 63)) k in
    grind (arith, low.0, low.1, high.0, high.1)

above : (m n : ℕ) → m ≤ max m n
above m n = grind arith

below_next : (id next : ℕ) → nat_lt id (max next (id + 1)) ≡ true
below_next id next = grind arith

absent_row : (o : Option NodeRow) → is_none o ≡ true → o ≡ None
absent_row None h = refl
absent_row (Some r) h = cc

-- a file comes in, and the next number is above its own
file_in : (N : Names) (p : Path) (f : File) → IsPlain N → has_place N p ≡ true → is_none (row_of N f.id) ≡ true → nat_le (path_len p) 4096 ≡ true → is_file_id f.id ≡ true → not (stored_is_yes f.stored) ≡ true → (f.done || (f.len == 0 && is_no f.stored)) ≡ true
    → IsPlain (record N { nodes = put_node p (Node.IsFile f) N.nodes; next_id = max N.next_id (f.id + 1) })
file_in N p f plain place new path number stored whole =
    let M : Names = record N { next_id = max N.next_id (f.id + 1) } in
    let risen : IsPlain M = stays_risen N (max N.next_id (f.id + 1)) N.next_plan plain (above N.next_id (f.id + 1)) (next_after f.id N.next_id number plain.file_next) plain.plan_next in
    let node : is_plain_file M.next_id f ≡ true =
    both (is_file_id f.id && nat_lt f.id M.next_id && not (stored_is_yes f.stored)) (f.done || (f.len == 0 && is_no f.stored))
    (both (is_file_id f.id && nat_lt f.id M.next_id) (not (stored_is_yes f.stored)) (both (is_file_id f.id) (nat_lt f.id M.next_id) number (below_next f.id N.next_id)) stored) whole in
    stays_with M p (Node.IsFile f) risen place path node (new_differs false f N.nodes (λ h. absent_row (row_of N f.id) new))

no_number : (ids : List (Option ℕ)) → list_all (differ None) ids ≡ true
no_number [] = refl
no_number (a ∷ ids) = no_number ids

-- a directory comes in
directory_in : (N : Names) (p : Path) → IsPlain N → is_path p ≡ true → has_place N p ≡ true → IsPlain (record N { nodes = put_node p Node.Directory N.nodes })
directory_in N p plain form place = stays_with N p Node.Directory plain place (short p form) refl (no_number (ids_of N.nodes))

no_plan : (n : ℕ) → nat_eq n 0 ≡ true → n ≡ 0
no_plan n h = grind (arith, h)

-- a file is done
done_in : (N : Names) (id len : ℕ) (stored : Stored) (plan : ℕ) → IsPlain N → not (stored_is_yes stored) ≡ true → nat_eq plan 0 ≡ true → IsPlain (effect (Entry.Done id len stored plan) N)
done_in N id len stored plan plain unstored none =
    subst (λ n. IsPlain (effect (Entry.Done id len stored n) N)) (sym (no_plan plan none)) (stays_changed id (λ f. record f { len = len; done = true; stored = stored }) (λ f. refl) N plain keeps)
  where
    keeps : (f : File) → is_plain_file N.next_id f ≡ true → is_plain_file N.next_id (record f { len = len; done = true; stored = stored }) ≡ true
    keeps f h =
        let ends = and_parts (is_file_id f.id && nat_lt f.id N.next_id && not (stored_is_yes f.stored)) (f.done || (f.len == 0 && is_no f.stored)) h in
        let number = (and_parts (is_file_id f.id && nat_lt f.id N.next_id) (not (stored_is_yes f.stored)) ends.0).0 in
        both (is_file_id f.id && nat_lt f.id N.next_id && not (stored_is_yes stored)) true (both (is_file_id f.id && nat_lt f.id N.next_id) (not (stored_is_yes stored)) number unstored) refl

-- `/` is mounted
no_mounts : (ms : List MountRow) → is_empty ms ≡ true → ms ≡ []
no_mounts [] h = refl
no_mounts (m ∷ ms) h = cc

only_empty : (a b : Bool) → a ≡ false → (a || b) ≡ true → b ≡ true
only_empty true b none h = cc
only_empty false b none h = h

pub mounted_is : (N : Names) (p : Path) (store : ℕ) (key : Prefix) (plan : ℕ) → IsPlain N → is_root p ≡ true → nat_eq plan 0 ≡ true → (has_place N p || (is_root p && is_empty N.mounts)) ≡ true
    → record N { mounts = record { path = []; store = store; key = key } ∷ [] } ≡ effect (Entry.Mount p store key plan) N
mounted_is N (x ∷ xs) store key plan plain root none place = cc
mounted_is N [] store key plan plain root none place =
    let m : MountRow = record { path = []; store = store; key = key } in
    let taken_root : has_place N [] ≡ false = ap (λ o. not (is_some o)) plain.root in
    let free : N.mounts ≡ [] = no_mounts N.mounts (only_empty (has_place N []) (is_empty N.mounts) taken_root place) in
    let first = root_first N.nodes plain.sorted plain.root in
    let same : put_node [] Node.Directory N.nodes ≡ N.nodes = ap (put_node [] Node.Directory) first.1 ∙ sym first.1 in
    let there : record N { mounts = m ∷ [] } ≡ effect (Entry.Mount [] store key 0) N = λ i. record N { nodes = sym same i; mounts = put_in_order (λ r. r.path) m (sym free i) } in
    there ∙ ap (λ n. effect (Entry.Mount [] store key n) N) (sym (no_plan plan none))

mount_in : (N : Names) (p : Path) (store : ℕ) (key : Prefix) (plan : ℕ) → IsPlain N → is_root p ≡ true → nat_eq plan 0 ≡ true → (has_place N p || (is_root p && is_empty N.mounts)) ≡ true → is_mountable N store key ≡ true → IsPlain (effect (Entry.Mount p store key plan) N)
mount_in N p store key plan plain root none place may =
    let tests = and_parts (not (is_reserved key) && nat_le (key_len key) 4096) (not (list_any (λ (n : MountRow). nat_eq n.store store && (under n.key key || under key n.key)) N.mounts)) may in
    let mounted : IsPlain (record N { mounts = record { path = []; store = store; key = key } ∷ [] }) = record {
      sorted = plain.sorted;
      root = plain.root;
      rows = plain.rows;
      ids = plain.ids;
      mounted = tests.0;
      planless = plain.planless;
      lockless = plain.lockless;
      unseen = plain.unseen;
      file_next = plain.file_next;
      plan_next = plain.plan_next;
    } in
    subst IsPlain (mounted_is N p store key plan plain root none place) mounted

-- the tests of a mount that counts
pub mount_tests : (N : Names) (p : Path) (store : ℕ) (key : Prefix) (plan : ℕ) → counts_in (Entry.Mount p store key plan) N ≡ true → ((is_root p ≡ true) × (nat_eq plan 0 ≡ true)) × (((has_place N p || (is_root p && is_empty N.mounts)) ≡ true) × (is_mountable N store key ≡ true))
mount_tests N p store key plan fit =
    let tests = and_parts (is_root p && nat_eq plan 0) (fits_in (Entry.Mount p store key plan) N) fit in
    let place = and_parts ((has_place N p || (is_root p && is_empty N.mounts)) && is_mountable N store key) (may_begin N plan (write_locks plan (p ∷ []))) tests.1 in
    (and_parts (is_root p) (nat_eq plan 0) tests.0, and_parts (has_place N p || (is_root p && is_empty N.mounts)) (is_mountable N store key) place.0)

-- a mount that counts is that of `/` alone
pub mount_counts : (N : Names) (p : Path) (store : ℕ) (key : Prefix) (plan : ℕ) → IsPlain N → counts_in (Entry.Mount p store key plan) N ≡ true → record N { mounts = record { path = []; store = store; key = key } ∷ [] } ≡ effect (Entry.Mount p store key plan) N
mount_counts N p store key plan plain fit =
    let tests = mount_tests N p store key plan fit in
    mounted_is N p store key plan plain tests.0.0 tests.0.1 tests.1.0

-- a file that is done makes no plan
pub done_counts : (N : Names) (id len : ℕ) (stored : Stored) (plan : ℕ) → counts_in (Entry.Done id len stored plan) N ≡ true → change_file id (λ f. record f { len = len; done = true; stored = stored }) N ≡ effect (Entry.Done id len stored plan) N
done_counts N id len stored plan fit =
    let built = and_parts (not (stored_is_yes stored)) (nat_eq plan 0) (and_parts (not (stored_is_yes stored) && nat_eq plan 0) (fits_in (Entry.Done id len stored plan) N) fit).0 in
    ap (λ n. effect (Entry.Done id len stored n) N) (sym (no_plan plan built.1))

-- where a node that counts comes in
pub node_counts : (N : Names) (p : Path) (dir : Bool) (id len : ℕ) (done : Bool) (stored : Stored) (pinned : Bool) → counts_in (Entry.Node p dir id len done stored pinned) N ≡ true → (has_place N p ≡ true) × (dir ≡ false → is_new_id N id ≡ true)
node_counts N p true id len done stored pinned fit = ((and_parts (has_place N p) true fit).0, λ h. cc)
node_counts N p false id len done stored pinned fit =
    let place = and_parts (has_place N p) (is_new_id N id) (and_parts (not (stored_is_yes stored)) (has_place N p && is_new_id N id) fit).1 in
    (place.0, λ h. place.1)

-- names stay plain whatever entry comes
pub stay : (e : Entry) (N : Names) → is_entry e ≡ true → IsPlain N → IsPlain (taken e N)
stay (Entry.Mkdir p) N h plain = passed_over (has_place N p) _ N plain (directory_in N p plain (has_text (Entry.Mkdir p) h).0)
stay (Entry.Create id p) N h plain =
    let text = has_text (Entry.Create id p) h in
    passed_over (has_place N p && is_new_id N id) _ N plain (λ fit.
    let tests = and_parts (has_place N p) (is_new_id N id) fit in
    file_in N p (record { id = id; len = 0; done = false; stored = Stored.No; pinned = false }) plain tests.0 tests.1 (short p text.0) text.1 refl refl)
stay (Entry.Done id len stored plan) N h plain =
    passed_over (counts_in (Entry.Done id len stored plan) N) _ N plain (λ fit.
    let built = and_parts (not (stored_is_yes stored)) (nat_eq plan 0) (and_parts (not (stored_is_yes stored) && nat_eq plan 0) (fits_in (Entry.Done id len stored plan) N) fit).0 in
    done_in N id len stored plan plain built.0 built.1)
stay (Entry.Mount p store key plan) N h plain =
    passed_over (counts_in (Entry.Mount p store key plan) N) _ N plain (λ fit.
    let tests = mount_tests N p store key plan fit in
    mount_in N p store key plan plain tests.0.0 tests.0.1 tests.1.0 tests.1.1)
stay (Entry.Next id plan) N h plain =
    let nexts = and_parts (is_next id) (is_next plan) (has_text (Entry.Next id plan) h).1 in
    stays_risen N (max N.next_id id) (max N.next_plan plan) plain (above N.next_id id) (next_of id N.next_id nexts.0 plain.file_next) (next_of plan N.next_plan nexts.1 plain.plan_next)
stay (Entry.Node p true id len done stored pinned) N h plain =
    passed_over (has_place N p && true) _ N plain (λ fit. directory_in N p plain (and_parts (is_path p) (nat_lt len (2 ^ 64)) (has_text (Entry.Node p true id len done stored pinned) h).0).0 (and_parts (has_place N p) true fit).0)
stay (Entry.Node p false id len done stored pinned) N h plain =
    let text = has_text (Entry.Node p false id len done stored pinned) h in
    let bounds = and_parts (is_file_id id) (done || (len == 0 && is_no stored)) text.1 in
    passed_over (not (stored_is_yes stored) && (has_place N p && is_new_id N id)) _ N plain (λ fit.
    let tests = and_parts (not (stored_is_yes stored)) (has_place N p && is_new_id N id) fit in
    let place = and_parts (has_place N p) (is_new_id N id) tests.1 in
    file_in N p (record { id = id; len = len; done = done; stored = stored; pinned = pinned }) plain place.0 place.1 (short p (and_parts (is_path p) (nat_lt len (2 ^ 64)) text.0).0) bounds.0 tests.0 bounds.1)
stay e N h plain = plain

-- so they stay over entries, one after the other
pub stay_all : (es : List Entry) (N : Names) → list_all is_entry es ≡ true → IsPlain N → IsPlain (after_entries N es)
stay_all [] N h plain = plain
stay_all (e ∷ es) N h plain =
    let split = and_parts (is_entry e) (list_all is_entry es) h in
    stay_all es (taken e N) split.1 (stay e N split.0 plain)

-- the first names are plain
pub first_plain : IsPlain no_names
first_plain = record {
  sorted = refl;
  root = refl;
  rows = refl;
  ids = refl;
  mounted = refl;
  planless = refl;
  lockless = refl;
  unseen = refl;
  file_next = refl;
  plan_next = refl;
}

-- names after an entry that counts
pub stay_after : (e : Entry) (N M : Names) (b : Bool) → has_form e ≡ true → fits e ≡ true → IsPlain N → b ≡ counts_in e N → b ≡ true → M ≡ effect e N → IsPlain M
stay_after e N M b form text plain test counts made =
    let is : taken e N ≡ M = ap (λ t. cond t (effect e N) N) (sym test ∙ counts) ∙ sym made in
    subst IsPlain is (stay e N (both (has_form e) (fits e) form text) plain)
