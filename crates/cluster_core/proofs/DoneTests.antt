-- The tests of the end of a writer, by what the core keeps.
use Rattle.std.proofs.Common.{◌≡◌, ℕ, suc, ◌+◌, ◌<◌, ◌^◌, Bool, true, false, not, ◌&&◌, List, [], ◌∷◌, nat_lt, Option, Some, None, is_none, refl, sym, ap, ◌∙◌}
use Rattle.std.specs.Prelude.{IfSome, cond, is_some, nat_eq, slice_get, option_and_then}
use Rattle.std.specs.List.{All}
use Rattle.std.proofs.lemmas.Bool.{eqb-true}
use Rattle.std.proofs.lemmas.List.Elements.{All-head, All-tail}
use Rattle.fs_model.specs.declared.path.Path.{Path}
use Rattle.fs_model.specs.declared.setup.Setup.{Setup}
use Rattle.fs_model.specs.declared.reply.Reply.{Reply}
use Rattle.fs_model.specs.declared.reply.Refusal.TheVariants.{NotFound, NoWorker, Stopped}
use Rattle.fs_model.specs.declared.reply.Which.{Which}
use Rattle.fs_model.specs.Words.{first}
use Rattle.fs_model.specs.State as machine
use Rattle.fs_model.specs.State.{State, Names, Content, File, NodeRow, Node as machineNode}
use Rattle.fs_model.specs.Lookups.{Touch, file_of, path_of, stored_is_yes}
use Rattle.fs_model.specs.Tests.{refuse, past, past_plans, past_ids, touch, ◌only_if◌}
use Rattle.fs_model.specs.BytesEvents.{finish_writer_refusal, is_cached, stored_by}
use Rattle.inode_tree.specs.Rows.{file_row}
use Rattle.outside.specs.declared.objects.Objects as objects
use Rattle.outside.specs.declared.objects.ObjectWrite as writes
use Rattle.cluster_core.proofs.Named.{writes_whole}
use Rattle.cluster_core.specs.declared.node.Node.{Node}
use Rattle.cluster_core.specs.declared.hand.Writer.{Writer}
use Rattle.master_node.specs.Mastering.{Mastering}
use Rattle.cluster_core.specs.NamesStand.{NamesStand}
use Rattle.cluster_core.specs.Names.{is_short, stop_test}
use Rattle.cluster_core.specs.Writers.{finish_test}
use Rattle.master_state.specs.Fits.{file_passes}
use Rattle.cluster_core.specs.Here.{runs_here}
use Rattle.cluster_core.specs.Knowledge.{Knowledge, Holder}
use Rattle.cluster_core.specs.HandFits.{WriterFits}
use Rattle.cluster_core.specs.Stands.{WorkersStand, SetupFits, NodeStands, FileFits, DoneFits}
use Rattle.cluster_core.proofs.RoomTests.{stands_same}
use Rattle.cluster_core.proofs.SourceFacts.{row_file}

-- nothing is locked
no_lock : (A : State) → A.names.locks ≡ [] → (y : Option Path) → option_and_then (λ p. touch A p Touch.Inside) y ≡ None
no_lock A none None = refl
no_lock A none (Some p) = ap (λ ls. touch (record A { names = record A.names { locks = ls } }) p Touch.Inside) none

tidy : (halt names area stands : Option Reply) → first (halt ∷ names ∷ None ∷ None ∷ None ∷ area ∷ stands ∷ []) ≡ first (halt ∷ names ∷ area ∷ stands ∷ [])
tidy None None area stands = refl
tidy None (Some x) area stands = refl
tidy (Some y) names area stands = refl

-- ---- a file that has a writer isn't done

-- it is there exactly where it isn't done
undone_by : (x : Option File) → IfSome x (λ f. f.done ≡ false) → is_none x ≡ not (file_passes (λ f. not f.done) x)
undone_by None h = refl
undone_by (Some f) h = sym (ap (λ b. not (not b)) h)

pub there_by : (test : File → Bool) (x : Option File) → file_passes test x ≡ true → is_some x ≡ true
there_by test None h = absurd (cc)
there_by test (Some f) h = refl

not_done : (K : Knowledge) (contents : List Content) (bs : ℕ) (f : File) (a : Holder) → K.author f.id ≡ Some a → (f.done ≡ true → DoneFits K contents bs f) → (b : Bool) → f.done ≡ b → f.done ≡ false
not_done K contents bs f a written fits true is = let none = (fits is).written in absurd (let no = sym written ∙ none in cc)
not_done K contents bs f a written fits false is = is

found_undone : (K : Knowledge) (contents : List Content) (next bs : ℕ) (rows : List NodeRow) (id : ℕ) (a : Holder) → K.author id ≡ Some a → All (FileFits K contents next bs) rows → IfSome (row_file (file_row rows id)) (λ f. f.done ≡ false)
found_undone K contents next bs [] id a written all = tt
found_undone K contents next bs ((p, machineNode.Directory) ∷ rows) id a written all = found_undone K contents next bs rows id a written (All-tail (FileFits K contents next bs) (p, machineNode.Directory) rows all)
found_undone K contents next bs ((p, machineNode.IsFile f) ∷ rows) id a written all =
    let mine : FileFits K contents next bs (p, machineNode.IsFile f) = All-head (FileFits K contents next bs) (p, machineNode.IsFile f) rows all in
    elim (nat_eq f.id id) as (λ b. nat_eq f.id id ≡ b → IfSome (row_file (cond b (Some (p, machineNode.IsFile f)) (file_row rows id))) (λ g. g.done ≡ false)) [
      | true ↦ λ same. not_done K contents bs f a (ap K.author (eqb-true f.id id same) ∙ written) mine.2 f.done refl
      | false ↦ λ differs. found_undone K contents next bs rows id a written (All-tail (FileFits K contents next bs) (p, machineNode.IsFile f) rows all)
    ] refl

-- the file of a writer is there on both sides exactly where it isn't done
pub gone_is : {D : Type 0} (master : Mastering D) (A : State) (s : NamesStand master A) (K : Knowledge) (contents : List Content) (next bs : ℕ) (id : ℕ) (a : Holder) → K.author id ≡ Some a → All (FileFits K contents next bs) master.kept.names.nodes → is_none (file_of A.names id) ≡ not (file_passes (λ f. not f.done) (file_of master.kept.names id))
gone_is master A s K contents next bs id a written all = ap (λ (N : Names). is_none (file_of N id)) s.names ∙ undone_by (file_of master.kept.names id) (found_undone K contents next bs master.kept.names.nodes id a written all)

-- ---- the tests

module _ {D S R W : Type 0} (o : objects.Ghosts S R W) (w : writes.Ghosts W) (U : Setup) (A : State) (master : Mastering D) (nodes : List (Node S)) (bs area next : ℕ) (K : Knowledge) (a : Holder) (named : NamesStand master A) (s : WorkersStand nodes A) (u : SetupFits U bs area nodes) (limit : area ≡ master.journal.limit) (stand : (i : ℕ) (node : Node S) → slice_get nodes i ≡ Some node → NodeStands o K next bs (suc i) node) (small : bs < 2 ^ 32) (m : machine.Writer) (x : Writer W) (f : WriterFits w K nodes next bs a m x) (whole : x.broken ≡ false) (contents : List Content) (files : All (FileFits K contents next bs) master.kept.names.nodes) where
  pub finish_tests_are : finish_writer_refusal U A m ≡ finish_test master nodes x
  finish_tests_are = by master.journal.failed refl
    where
      by : (b : Bool) → master.journal.failed ≡ b → finish_writer_refusal U A m ≡ finish_test master nodes x
      by true down = rw (named.down, down) refl
      by false up =
          let stands = stands_same o w U A master nodes bs area next K a named s u stand small m x f whole in
          let gone : is_none (file_of A.names m.file) ≡ not (file_passes (λ f. not f.done) (file_of master.kept.names x.file)) = gone_is master A named K contents next bs m.file a (writes_whole K m.file a x.broken f.author whole) files ∙ ap (λ n. not (file_passes (λ f. not f.done) (file_of master.kept.names n))) f.file in
          (λ j. first (refuse Stopped (named.down j) ∷ refuse NotFound (gone j) ∷ no_lock A named.unlocked (path_of A.names m.file) j ∷ (past_plans A only_if stored_is_yes (stored_by (f.kind j))) ∷ (past_ids A.names.next_plan only_if stored_is_yes (stored_by (f.kind j))) ∷ past Which.Area (nat_lt ((u.area ∙ limit) j) (named.gate up j + 2 + 30)) ∷ refuse (NoWorker (f.worker j)) (is_cached (f.kind j) && not (stands j)) ∷ []))
          ∙ tidy (stop_test master) (refuse NotFound (not (file_passes (λ f. not f.done) (file_of master.kept.names x.file)))) (past Which.Area (is_short master 30)) (refuse (NoWorker x.worker) (not (runs_here nodes x.worker x.started)))
