-- What stat shows, as a step of the file machine.
use Rattle.std.proofs.Common.{◌≡◌, ℕ, ◌≤◌, ◌*◌, true, false, ◌&&◌, cond, List, [], ◌∷◌, Some, None, refl, sym, ap, ◌∙◌}
use Rattle.std.specs.Prelude.{is_none}
use Rattle.std.specs.Option.{option_and_then}
use Rattle.fs_model.specs.declared.setup.Setup.{Setup}
use Rattle.fs_model.specs.declared.path.Path.{Path}
use Rattle.fs_model.specs.declared.event.Event.{Event}
use Rattle.fs_model.specs.declared.reply.Reply.{Reply}
use Rattle.fs_model.specs.declared.reply.FileState.{FileState}
use Rattle.fs_model.specs.declared.reply.Refusal.{Refusal}
use Rattle.fs_model.specs.State.{Whole, Node, File, Content}
use Rattle.fs_model.specs.Lookups as machine
use Rattle.fs_model.specs.Lookups.{walk_nodes, find_node, file_in, lacks_some, awaited}
use Rattle.fs_model.specs.Tests.{refuse, walk_fault}
use Rattle.fs_model.specs.Words.{first}
use Rattle.fs_model.specs.NamesOutcomes.{state_by_stored, state_of, stat_of}
use Rattle.fs_model.specs.BytesOutcomes.{Outcome}
use Rattle.fs_model.specs.Choices.{fault_free}
use Rattle.fs_model.specs.Machine.{accepted, hands_of}
use Rattle.fs_model.specs.Step.{Step}
use Rattle.inode_tree.specs.declared.row.Row.{Row}
use Rattle.inode_tree.specs.Rows.{node_of, node_if, file_in_row}
use Rattle.outside.specs.declared.disk.Disk as disks
use Rattle.outside.specs.declared.objects.Objects as objects
use Rattle.outside.specs.declared.objects.ObjectRead as reads
use Rattle.outside.specs.declared.objects.ObjectWrite as writes
use Rattle.cluster_core.specs.Knowledge.{Knowledge}
use Rattle.cluster_core.specs.Tests.{stat_test}
use Rattle.cluster_core.specs.Shown.{state_here}
use Rattle.cluster_core.specs.Stands.{Stands, FileFits}
use Rattle.cluster_core.specs.Goes.{Steps, Rises, no_rise}
use Rattle.cluster_core.specs.declared.cluster.Core.{Core}
use Rattle.cluster_core.proofs.Named.{nodes_are, serves_none}
use Rattle.cluster_core.proofs.NamesSteps.{stat_refusal}
use Rattle.cluster_core.proofs.NamesGo.{file_anywhere}
use Rattle.cluster_core.proofs.Standing.{put_same, goes_refused}
use Rattle.cluster_core.proofs.Rows.{node_of_all}
use Rattle.cluster_core.proofs.LiveHere.{lacks_is, awaits_none}

module _ {D S R W : Type 0} {d : disks.Ghosts D} (o : objects.Ghosts S R W) (r : reads.Ghosts R) (w : writes.Ghosts W) (old : Core D S R W d w) (who : ℕ) (p : Path) where
  pub stat_stopped : old.master.journal.failed ≡ true → Steps d o r w old old who (Event.Stat p) (Reply.Refused Refusal.Stopped)
  stat_stopped down = λ U V s. goes_refused o r w U old old V who (Event.Stat p) (Reply.Refused Refusal.Stopped) s (stat_refusal U old.master V.body (hands_of V who) s.names p ∙ rw down refl) refl refl

module _ {D S R W : Type 0} {d : disks.Ghosts D} (o : objects.Ghosts S R W) (r : reads.Ghosts R) (w : writes.Ghosts W) (old : Core D S R W d w) (who : ℕ) (p : Path) (up : old.master.journal.failed ≡ false) where
  -- where the walk leads to no node
  pub stat_lost : (k : machine.Walk) (why : Refusal) → k ≡ walk_nodes old.master.kept.names.nodes p → walk_fault k ≡ Some (Reply.Refused why) → Steps d o r w old old who (Event.Stat p) (Reply.Refused why)
  stat_lost k why leads fault = λ U V s. goes_refused o r w U old old V who (Event.Stat p) (Reply.Refused why) s (stat_refusal U old.master V.body (hands_of V who) s.names p ∙ (λ j. first (refuse Refusal.Stopped (up j) ∷ (ap walk_fault (sym leads) ∙ fault) j ∷ []))) refl refl

  -- where it leads to a node, of which this is shown
  stat_shown : (n : Node) (reply : Reply) → machine.Walk.Found n ≡ walk_nodes old.master.kept.names.nodes p → find_node old.master.kept.names.nodes p ≡ Some n
      → ((U : Setup) (V : Whole) → Stands d o r w U old V → reply ≡ stat_of U V.body (file_in n)) → Steps d o r w old old who (Event.Stat p) reply
  stat_shown n reply leads found is = λ U V s.
      let H = hands_of V who in
      let passes : stat_test old.master p ≡ None = (λ j. first (refuse Refusal.Stopped (up j) ∷ ap walk_fault (sym leads) j ∷ [])) in
      let there : file_in n ≡ option_and_then file_in (find_node V.body.names.nodes p) = sym (ap (option_and_then file_in) (ap (λ rows. find_node rows p) (nodes_are s.names) ∙ found)) in
      let shown : ◌≡◌ {A = Outcome} (reply, V.body, H) (accepted U (fault_free 0) V.body H who (Event.Stat p)) = ap (λ (x : Reply). let y : Outcome = (x, V.body, H) in y) (is U V s ∙ ap (stat_of U V.body) there) in
      record {
        after = V;
        rise = no_rise;
        made = None;
        stands = s;
        rises = Rises.Nothing;
        step = record {
          body = V.body;
          hands = H;
          step = Step.Accepted (fault_free 0) (stat_refusal U old.master V.body H s.names p ∙ passes) refl (serves_none V.body.master.fuse) refl shown refl;
          after = sym (put_same V who);
        };
      }

  pub stat_dir : (row : Row) → machine.Walk.Found (node_of row) ≡ walk_nodes old.master.kept.names.nodes p → find_node old.master.kept.names.nodes p ≡ Some (node_of row) → row.dir ≡ true → Steps d o r w old old who (Event.Stat p) Reply.StatDir
  stat_dir row leads found dir = stat_shown (node_of row) Reply.StatDir leads found (λ U V s. sym (ap (λ d. stat_of U V.body (file_in (node_if d (file_in_row row)))) dir))

  -- a done file is short
  short_file : (K : Knowledge) (contents : List Content) (next bs : ℕ) (f : File) → FileFits K contents next bs (p, Node.IsFile f) → f.done ≡ true → f.len ≤ 65536 * bs
  short_file K contents next bs f fits done = (fits.2 done).short

  -- the state that the machine shows
  state_is : (U : Setup) (V : Whole) (s : Stands d o r w U old V) (f : File) → state_here old.workers.items old.block f ≡ state_of U V.body f
  state_is U V s f =
      ap (λ b. cond f.done (state_by_stored f.stored b) FileState.Incomplete)
      (sym (ap (λ x. is_none x && lacks_some U V.body f) (awaits_none V.body old.workers.items s.workers) ∙ lacks_is V.body old.workers.items s.workers U old.block f s.setup.block))

  pub stat_file : (row : Row) (state : FileState) → machine.Walk.Found (node_of row) ≡ walk_nodes old.master.kept.names.nodes p → find_node old.master.kept.names.nodes p ≡ Some (node_of row) → row.dir ≡ false
      → ((row.done ≡ true → row.len ≤ 65536 * old.block) → state ≡ state_here old.workers.items old.block (file_in_row row)) → Steps d o r w old old who (Event.Stat p) (Reply.StatFile row.id row.len state row.pinned)
  stat_file row state leads found file is = stat_shown (node_of row) (Reply.StatFile row.id row.len state row.pinned) leads found (λ U V s.
      let f = file_in_row row in
      let at : find_node old.master.kept.names.nodes p ≡ Some (Node.IsFile f) = found ∙ ap (λ d. Some (node_if d f)) file in
      let fits = node_of_all (FileFits s.known V.body.contents old.master.kept.names.next_id old.block) p (Node.IsFile f) old.master.kept.names.nodes (λ a b k. file_anywhere s.known V.body.contents old.master.kept.names.next_id old.block a b k) s.files.each at in
      ap (λ x. Reply.StatFile row.id row.len x row.pinned) (is (short_file s.known V.body.contents old.master.kept.names.next_id old.block f fits) ∙ state_is U V s f)
      ∙ sym (ap (λ d. stat_of U V.body (file_in (node_if d f))) file))
