-- The next bytes of a stream as a step of the file machine.
use Rattle.std.proofs.Common.{◌≡◌, ℕ, zero, suc, pred, ◌+◌, ◌-◌, ◌/◌, ◌<◌, ◌≤◌, ◌^◌, Bool, true, false, cond, ◌&&◌, List, length, take, drop, nat_eq, nat_lt, nat_le, Option, Some, None, is_some, is_none, option_map, inl, inr, refl, sym, ap, ◌∙◌, subst, arith}
use Rattle.std.specs.Prelude.{IsSomeAnd, IfSome, slice_get, option_and_then}
use Rattle.std.proofs.lemmas.List.{drop-drop, drop-take, take-take}
use Rattle.std.proofs.lemmas.Bool.{cases_lt, le-leb, lt-leb, eq-eqb, ne_eqb, and_from, or_right}
use Rattle.fs_model.specs.declared.setup.Setup.{Setup}
use Rattle.fs_model.specs.declared.label.Label.{Label}
use Rattle.fs_model.specs.declared.event.Event.{Event}
use Rattle.fs_model.specs.declared.reply.Reply.{Reply}
use Rattle.fs_model.specs.declared.reply.Refusal.{Refusal}
use Rattle.fs_model.specs.Spelled.{is_actor}
use Rattle.fs_model.specs.State as machine
use Rattle.fs_model.specs.State.{State, Whole, Hands, Source}
use Rattle.fs_model.specs.Lookups.{hand_at}
use Rattle.fs_model.specs.Updates.{set_hand}
use Rattle.fs_model.specs.BytesEvents.{bad_label, a_stream, unbroken}
use Rattle.fs_model.specs.BytesOutcomes.{OwnOutcome, BodyAndHands, block_end, most, source_after, poll_of, poll_by, polled}
use Rattle.fs_model.specs.Choices.{fault_free}
use Rattle.fs_model.specs.Journaling.{fuse_serves}
use Rattle.fs_model.specs.Faults.{by_hand, copy_may_fail, reader_dropped, rose, Device, Remains, BlockFate}
use Rattle.fs_model.specs.Machine.{refusal, accepted, hands_of, put_back, own}
use Rattle.fs_model.specs.Step.{Step, label_choices, amount_choice, device_choices, reads_on, waited_by, may_choose}
use Rattle.outside.specs.Causes.{Rose}
use Rattle.outside.specs.declared.disk.Disk as disks
use Rattle.outside.specs.declared.objects.Objects as objects
use Rattle.outside.specs.declared.objects.ObjectRead as reads
use Rattle.outside.specs.declared.objects.ObjectWrite as writes
use Rattle.cluster_core.proofs.Named.{serves_none}
use Rattle.cluster_core.specs.Tiers.{ChangesAt}
use Rattle.cluster_core.specs.LabelsView.{hand_in}
use Rattle.cluster_core.specs.HandChanges.{SetsHand, KeepsHands, EndsHand, AddsHand}
use Rattle.cluster_core.specs.HandFits.{Fits, StreamFits, ReaderFits, source_of, rest_len}
use Rattle.cluster_core.specs.Knowledge.{Knowledge}
use Rattle.cluster_core.specs.Kept.{KeepsRest}
use Rattle.cluster_core.specs.Polls.{due_of, reply_of, Moved, Gives, Waited, Lost, SourcePolls, SameFile, Reads, PollOf, HandPolls}
use Rattle.cluster_core.specs.Stands.{Stands}
use Rattle.cluster_core.specs.Goes.{Goes, Steps, Rises, no_rise, wait_rise, tier_rise, HandRose, HandWaited, SourceRose}
use Rattle.cluster_core.specs.declared.cluster.Core.{Core}
use Rattle.cluster_core.specs.declared.hand.Hand.{Hand}
use Rattle.cluster_core.specs.declared.hand.BlockSource.{BlockSource}
use Rattle.cluster_core.specs.declared.hand.Stream.{Stream}
use Rattle.cluster_core.specs.declared.polling.Gave.{Gave}
use Rattle.cluster_core.proofs.Standing.{goes_refused, goes_short, put_same}
use Rattle.cluster_core.proofs.Labelled.{fits_at, absent_at, set_there, sets_hand}
use Rattle.cluster_core.proofs.CloseGo.{by_actor}
use Rattle.cluster_core.proofs.OpenGo.{rest_both}
use Rattle.cluster_core.proofs.StreamsGo.{sets_same, at_set, stays_kept, stays_set, before_end, same_block, block_number, same_source, good_source, tier_rose, there_is, fits_in_place}

-- ---- the amount

-- the most that may come may be chosen
pub whole_amount : (u : ℕ) → amount_choice u u ≡ true
whole_amount zero = refl
whole_amount (suc u) = or_right (nat_eq (suc u) 0) (nat_le 1 (suc u) && nat_le (suc u) (suc u)) (and_from (nat_le 1 (suc u)) (nat_le (suc u) (suc u)) (le-leb 1 (suc u) (omega arith)) (le-leb (suc u) (suc u) (omega arith)))

-- some bytes of those that may come
some_amount : (n u : ℕ) → 0 < n → n ≤ u → amount_choice n u ≡ true
some_amount n u some few = or_right (nat_eq u 0) (nat_le 1 n && nat_le n u) (and_from (nat_le 1 n) (nat_le n u) (le-leb 1 n (omega (arith, some))) (le-leb n u few))

-- ---- a stream that gave bytes

module _ {R : Type 0} (r : reads.Ghosts R) (K : Knowledge) (next bs : ℕ) (some : 0 < bs) (m : machine.Stream) (x y : Stream R) (fits : StreamFits r K next bs m x) where
  -- its source, where that hasn't failed
  reader_of : (b : BlockSource R) → x.source ≡ Some b → b.failed ≡ false → ReaderFits r m b
  reader_of b is good = let all : IfSome (Some b) (λ c. c.failed ≡ false → ReaderFits r m c) = subst (λ o. IfSome o (λ c. c.failed ≡ false → ReaderFits r m c)) is fits.reader in all good

  pub source_is : (b : BlockSource R) → x.source ≡ Some b → b.failed ≡ false → m.source ≡ Some (Source.AtWorker b.worker b.tier)
  source_is b is good = fits.source ∙ ap source_of is ∙ good_source b good

  -- the machine's stream, so many bytes on
  abbrev pub moved_on : ℕ → machine.Stream
  moved_on n = record m { at = m.at + n; source = source_after m.bs (length m.bytes) m.at n m.source; cache = m.cache }

  module _ (b : BlockSource R) (is : x.source ≡ Some b) (good : b.failed ≡ false) (max : ℕ) (bytes : List ℕ) (gives : Gives r max b y.source bytes) (same : SameFile r x y (x.at + length bytes)) where
    abbrev pub n : ℕ
    n = length bytes

    abbrev pub end : ℕ
    end = block_end m.bs (length m.bytes) (m.at / m.bs)

    some_m : 0 < m.bs
    some_m = subst (λ k. 0 < k) (sym fits.bs) some

    at_end : m.at < end
    at_end = before_end m.bs (length m.bytes) m.at some_m (reader_of b is good).inside

    due_is : r.to_give b.stream.reader ≡ end - m.at
    due_is = (reader_of b is good).due

    -- the bytes are the file's next
    pub gave_is : bytes ≡ take n (drop m.at m.bytes)
    gave_is =
        let front : IfSome (Some (take (end - m.at) (drop m.at m.bytes))) (λ all. bytes ≡ take n all) = subst (λ o. IfSome o (λ all. bytes ≡ take n all)) (reader_of b is good).left gives.front in
        front ∙ take-take n (end - m.at) (drop m.at m.bytes) (omega (arith, gives.due, due_is))

    pub amount_is : amount_choice n (most m.bs (length m.bytes) m.at max) ≡ true
    amount_is = some_amount n (most m.bs (length m.bytes) m.at max) gives.some (omega (arith, gives.few, gives.due, due_is))

    ends_here : n ≡ end - m.at → nat_eq (m.at + n) end ≡ true
    ends_here all = eq-eqb (m.at + n) end (omega (arith, all, at_end))

    goes_here : n < end - m.at → nat_eq (m.at + n) end ≡ false
    goes_here part = ne_eqb (m.at + n) end (λ e. omega (arith, part, at_end, e))

    -- a fit of the rest, by its source
    with_source : m.file ≡ y.file → (moved_on n).source ≡ source_of y.source → IfSome y.source (λ z. z.failed ≡ false → ReaderFits r (moved_on n) z) → StreamFits r K next bs (moved_on n) y
    with_source file source reader = record {
      file = file;
      bs = fits.bs;
      len = fits.len ∙ sym same.len;
      short = fits.short;
      at = ap (λ k. k + n) fits.at ∙ sym same.position;
      kind = fits.kind;
      worker = fits.worker ∙ sym same.worker;
      cache = fits.cache;
      source = source;
      reader = reader;
      old = fits.old;
      bytes = fits.bytes;
      written = fits.written;
    }

    at_block_end : n ≡ end - m.at → StreamFits r K next bs (moved_on n) y
    at_block_end all =
        let gone : y.source ≡ None = gives.ends (due_is ∙ sym all) in
        with_source (fits.file ∙ sym same.file) (ap (λ k. cond k None m.source) (ends_here all) ∙ sym (ap source_of gone)) (subst (λ o. IfSome o (λ z. z.failed ≡ false → ReaderFits r (moved_on n) z)) (sym gone) tt)

    within_block : n < end - m.at → StreamFits r K next bs (moved_on n) y
    within_block part =
        let next_source = there_is (Moved r n b) y.source (gives.goes (omega (arith, part, due_is))) in
        let z = next_source.0 in
        let move = next_source.2 in
        let block : (m.at + n) / m.bs ≡ m.at / m.bs = same_block m.bs (length m.bytes) m.at n some_m (omega (arith, part, at_end)) in
        let rest : rest_len (moved_on n) ≡ end - m.at - n = ap (λ k. block_end m.bs (length m.bytes) k - (m.at + n)) block ∙ omega arith in
        let whole : end - m.at ≡ n + (end - m.at - n) = omega (arith, part) in
        let read : ReaderFits r (moved_on n) z = record {
          inside = omega (arith, part, at_end);
          due = omega (arith, move.due, due_is, rest);
          left = move.left ∙ ap (option_map (drop n)) (reader_of b is good).left ∙ ap (λ k. Some (drop n (take k (drop m.at m.bytes)))) whole
              ∙ ap Some (drop-take n (end - m.at - n) (drop m.at m.bytes) ∙ ap (take (end - m.at - n)) (drop-drop n m.at m.bytes)) ∙ ap (λ k. Some (take k (drop (m.at + n) m.bytes))) (sym rest);
        } in
        with_source (fits.file ∙ sym same.file)
        (ap (λ k. cond k None m.source) (goes_here part) ∙ fits.source ∙ ap source_of is ∙ sym (same_source r b z move.place) ∙ sym (ap source_of next_source.1))
        (subst (λ o. IfSome o (λ z. z.failed ≡ false → ReaderFits r (moved_on n) z)) (sym next_source.1) (λ still. read))

    pub fits_on : StreamFits r K next bs (moved_on n) y
    fits_on = elim (cases_lt n (end - m.at)) as (λ c. StreamFits r K next bs (moved_on n) y) [
      | inl part ↦ within_block part
      | inr all ↦ at_block_end (omega (arith, all, gives.due, due_is))
    ]

-- ---- what rose

-- a count of a source's reader rose
pub rose_both : {S R W : Type 0} (o : objects.Ghosts S R W) (r : reads.Ghosts R) (w : writes.Ghosts W) (count : R → ℕ) (p q : Option (BlockSource R)) (b z : BlockSource R) → p ≡ Some b → q ≡ Some z → r.steady b.stream.reader ≡ false → Rose (count b.stream.reader) (count z.stream.reader) → SourceRose o r w count b.worker p q
rose_both o r w count p q b z is next unsteady more = subst (λ k. SourceRose o r w count b.worker k q) (sym is) (subst (λ k. SourceRose o r w count b.worker (Some b) k) (sym next) (refl, unsteady, more))

-- ---- the event

module _ {D S R W : Type 0} {d : disks.Ghosts D} (o : objects.Ghosts S R W) (r : reads.Ghosts R) (w : writes.Ghosts W) (old new : Core D S R W d w) (l : Label) (max i : ℕ) (within : i < 64) (rest : KeepsRest old new) (workers : new.workers.items ≡ old.workers.items) (U : Setup) (V : Whole) (s : Stands d o r w U old V) where
  -- a label that is missing, or has no stream
  abbrev pub poll_test : Option machine.Hand → Option Reply
  poll_test h = elim (option_and_then a_stream h) [ None ↦ bad_label | Some k ↦ None ]

  pub poll_missing : hand_at (hands_of V (suc i)) l ≡ None → ChangesAt old.hands.items new.hands.items i KeepsHands → Goes d o r w U old new V (suc i) (Event.Poll l max) (Reply.Refused Refusal.BadLabel)
  poll_missing at hands = goes_refused o r w U old new V (suc i) (Event.Poll l max) (Reply.Refused Refusal.BadLabel) (stays_kept o r w old new l i within rest workers U V s hands) (ap poll_test at) refl refl

  module _ (x y : Stream R) (hands : ChangesAt old.hands.items new.hands.items i (SetsHand l (Hand.Reading x) (Hand.Reading y))) (m : machine.Stream) (at : hand_at (hands_of V (suc i)) l ≡ Some (machine.Hand.Reading m)) (fits : StreamFits r s.known old.master.kept.names.next_id old.block m x) where
    abbrev H : Hands
    H = hands_of V (suc i)

    some_b : 0 < m.bs
    some_b = subst (λ k. 0 < k) (sym fits.bs) old.blocks

    -- the stream stays as it was
    kept : y ≡ x → Stands d o r w U new V
    kept same = stays_kept o r w old new l i within rest workers U V s (sets_same i l (Hand.Reading x) old.hands.items new.hands.items (subst (λ z. ChangesAt old.hands.items new.hands.items i (SetsHand l (Hand.Reading x) (Hand.Reading z))) same hands))

    passes : refusal U V.body H (Event.Poll l max) ≡ None
    passes = ap poll_test at

    -- what may be chosen of a stream
    abbrev amount_test : ℕ → Option machine.Hand → Bool
    amount_test n h = label_choices no_rise (fault_free n) h && elim (option_and_then a_stream h) [ None ↦ true | Some k ↦ amount_choice n (most k.bs (length k.bytes) k.at max) ]

    chosen : (n : ℕ) → amount_choice n (most m.bs (length m.bytes) m.at max) ≡ true → may_choose U V.body H (Event.Poll l max) no_rise (fault_free n) ≡ true
    chosen n may = ap (amount_test n) at ∙ may

    -- what a poll of the stream does
    abbrev done_by : ℕ → OwnOutcome
    done_by n = poll_of U (fault_free n) H l m

    does : (n : ℕ) → accepted U (fault_free n) V.body H (suc i) (Event.Poll l max) ≡ own V.body (done_by n)
    does n = ap (λ h. own V.body (poll_by U (fault_free n) H l (option_and_then a_stream h))) at

    abbrev upper : ℕ
    upper = most m.bs (length m.bytes) m.at max

    -- an answer that leaves all as it was
    idle : (reply : Reply) → y ≡ x → done_by upper ≡ (reply, H) → Goes d o r w U old new V (suc i) (Event.Poll l max) reply
    idle reply same is = record {
      after = V;
      rise = no_rise;
      made = None;
      stands = kept same;
      rises = Rises.Nothing;
      step = record {
        body = V.body;
        hands = H;
        step = Step.Accepted (fault_free upper) passes refl (serves_none V.body.master.fuse) (chosen upper (whole_amount upper)) (sym (does upper ∙ ap (own V.body) is)) refl;
        after = sym (put_same V (suc i));
      };
    }

    -- the answer by where the stream is, and whether it has a source
    abbrev by_tests : ℕ → Bool → Bool → OwnOutcome
    by_tests n b c = cond b (Reply.End, H) (cond c (Reply.NeedsBlock (m.at / m.bs), H) (polled U (fault_free n) H l m))

    pub poll_ended : x.len ≤ x.at → y ≡ x → Goes d o r w U old new V (suc i) (Event.Poll l max) Reply.End
    poll_ended ended same = idle Reply.End same (ap (λ b. by_tests upper b (is_none m.source)) (le-leb (length m.bytes) m.at (omega (arith, ended, fits.len, fits.at))))

    before : x.at < x.len → nat_le (length m.bytes) m.at ≡ false
    before inside = lt-leb (length m.bytes) m.at (omega (arith, inside, fits.len, fits.at))

    pub poll_needs : (k : ℕ) → x.at < x.len → due_of r x.source ≡ 0 → y ≡ x → (x.at / old.block < 2 ^ 32 → k ≡ x.at / old.block) → Goes d o r w U old new V (suc i) (Event.Poll l max) (Reply.NeedsBlock k)
    poll_needs k inside none same number = idle (Reply.NeedsBlock k) same
        (ap (λ b. by_tests upper b (is_none m.source)) (before inside)
        ∙ ap (λ q. by_tests upper false (is_none q)) (fits.source ∙ no_source x.source none fits.reader)
        ∙ ap (λ q. let z : OwnOutcome = (Reply.NeedsBlock q, H) in z) (sym block_is))
      where
        no_source : (q : Option (BlockSource R)) → due_of r q ≡ 0 → IfSome q (λ b. b.failed ≡ false → ReaderFits r m b) → source_of q ≡ None
        no_source None none reader = refl
        no_source (Some b) none reader = elim b.failed as (λ f. b.failed ≡ f → cond f 0 (r.to_give b.stream.reader) ≡ 0 → cond f None (Some (Source.AtWorker b.worker b.tier)) ≡ None) [
          | true ↦ λ is e. refl
          | false ↦ λ is e. let read = reader is in let more = before_end m.bs (length m.bytes) m.at some_b read.inside in absurd (some_due e read.due more)
        ] refl none
          where
            some_due : r.to_give b.stream.reader ≡ 0 → r.to_give b.stream.reader ≡ rest_len m → m.at < block_end m.bs (length m.bytes) (m.at / m.bs) → ⊥
            some_due e due more = omega (arith, e, due, more)

        same_block_here : x.at / old.block ≡ m.at / m.bs
        same_block_here = ap (λ a. a / old.block) (sym fits.at) ∙ ap (λ b. m.at / b) (sym fits.bs)

        few : x.at / old.block < 2 ^ 32
        few = let b : m.at / m.bs < 65536 = block_number m.bs (length m.bytes) m.at some_b (omega (arith, fits.short, fits.bs)) (omega (arith, inside, fits.len, fits.at)) in omega (arith, b, same_block_here)

        block_is : k ≡ m.at / m.bs
        block_is = number few ∙ same_block_here

    pub poll_gave : (bytes : List ℕ) → Reads r max x y (Gave.Given bytes) (length bytes) → Goes d o r w U old new V (suc i) (Event.Poll l max) (Reply.Given bytes)
    poll_gave bytes reads =
        let found = there_is (λ b. (b.failed ≡ false) × SourcePolls r max b y.source (Gave.Given bytes)) x.source reads.source in
        let b = found.0 in
        let is = found.1 in
        let good = found.2.0 in
        let n = length bytes in
        let m_on : machine.Stream = moved_on r s.known old.master.kept.names.next_id old.block old.blocks m x y fits n in
        let shown : ◌≡◌ {A = OwnOutcome} (done_by n) (Reply.Given bytes, set_hand l (machine.Hand.Reading m_on) H) =
        ap (λ b. by_tests n b (is_none m.source)) (before reads.inside)
        ∙ ap (λ q. by_tests n false (is_none q)) (source_is r s.known old.master.kept.names.next_id old.block old.blocks m x y fits b is good)
        ∙ ap (λ bs. let z : OwnOutcome = (Reply.Given bs, set_hand l (machine.Hand.Reading m_on) H) in z) (sym (gave_is r s.known old.master.kept.names.next_id old.block old.blocks m x y fits b is good max bytes found.2.1 reads.same)) in
        record {
          after = put_back V (suc i) V.body (set_hand l (machine.Hand.Reading m_on) H);
          rise = no_rise;
          made = None;
          stands = stays_set o r w old new l i within rest workers U V s (Hand.Reading x) (Hand.Reading y) (machine.Hand.Reading m) (machine.Hand.Reading m_on) at hands (fits_on r s.known old.master.kept.names.next_id old.block old.blocks m x y fits b is good max bytes found.2.1 reads.same);
          rises = Rises.Nothing;
          step = record {
            body = V.body;
            hands = set_hand l (machine.Hand.Reading m_on) H;
            step = Step.Accepted (fault_free n) passes refl (serves_none V.body.master.fuse) (chosen n (amount_is r s.known old.master.kept.names.next_id old.block old.blocks m x y fits b is good max bytes found.2.1 reads.same)) (sym (does n ∙ ap (own V.body) shown)) refl;
            after = refl;
          };
        }

    -- a stream without a source
    abbrev with_no_source : machine.Stream
    with_no_source = record m { source = None }

    -- the stream is where it was
    unmoved : SameFile r x y (x.at + 0) → SameFile r x y x.at
    unmoved same = record { file = same.file; len = same.len; position = omega (arith, same.position); worker = same.worker }

    -- what is asked of a label whose reader isn't ready
    abbrev wait_test : Option machine.Hand → Bool
    wait_test h = nat_lt 0 1 && by_hand (λ k. reads_on k && device_choices wait_rise (fault_free 0) k) (option_and_then unbroken h)

    pub poll_waited : Reads r max x y Gave.NotReady 0 → Goes d o r w U old new V (suc i) (Event.Poll l max) Reply.NotReady
    poll_waited reads =
        let found = there_is (λ b. (b.failed ≡ false) × SourcePolls r max b y.source Gave.NotReady) x.source reads.source in
        let b = found.0 in
        let is = found.1 in
        let good = found.2.0 in
        let next_source = there_is (Waited r b) y.source found.2.1 in
        let z = next_source.0 in
        let waited = next_source.2 in
        let read = reader_of r s.known old.master.kept.names.next_id old.block old.blocks m x y fits b is good in
        let read_on : ReaderFits r m z = record { inside = read.inside; due = waited.due ∙ read.due; left = waited.left ∙ read.left } in
        let source : m.source ≡ source_of y.source = fits.source ∙ ap source_of is ∙ sym (same_source r b z waited.place) ∙ sym (ap source_of next_source.1) in
        let fits_on : StreamFits r s.known old.master.kept.names.next_id old.block m y = fits_in_place r s.known old.master.kept.names.next_id old.block m x y fits m refl refl refl refl refl refl fits.cache (unmoved reads.same) source (subst (λ o. IfSome o (λ z. z.failed ≡ false → ReaderFits r m z)) (sym next_source.1) (λ still. read_on)) in
        record {
          after = put_back V (suc i) V.body (set_hand l (machine.Hand.Reading m) H);
          rise = wait_rise;
          made = None;
          stands = stays_set o r w old new l i within rest workers U V s (Hand.Reading x) (Hand.Reading y) (machine.Hand.Reading m) (machine.Hand.Reading m) at hands fits_on;
          rises = Rises.OfWaits b.worker l refl (at_set (HandWaited o r w b.worker) i l (Hand.Reading x) (Hand.Reading y) old.hands.items new.hands.items hands (rose_both o r w r.waits x.source y.source b z is next_source.1 waited.unsteady waited.rose));
          step = record {
            body = V.body;
            hands = set_hand l (machine.Hand.Reading m) H;
            step = Step.Waits (fault_free 0) passes refl (ap wait_test at ∙ ap (λ q. is_some q && true) (source_is r s.known old.master.kept.names.next_id old.block old.blocks m x y fits b is good)) refl (sym (ap (waited_by false H l) at)) refl;
            after = refl;
          };
        }

    -- what a fault of the reader leaves
    abbrev remains : Remains
    remains = record { begun = false; fate = BlockFate.IsGone; keeps_room = false; parks = false; acted = false; breaks = false }

    -- what is asked of a label whose reader failed
    abbrev fault_test : ℕ → Bool → Option machine.Hand → Bool
    fault_test v rises h = rises && by_hand (copy_may_fail remains (Device.TiersOf v)) (option_and_then unbroken h)

    pub poll_failed : (v : ℕ) → Reads r max x y (Gave.Fault v) 0 → Goes d o r w U old new V (suc i) (Event.Poll l max) (Reply.Refused (Refusal.TierFault v))
    poll_failed v reads =
        let found = there_is (λ b. (b.failed ≡ false) × SourcePolls r max b y.source (Gave.Fault v)) x.source reads.source in
        let b = found.0 in
        let is = found.1 in
        let good = found.2.0 in
        let mine = found.2.1.0 in
        let next_source = there_is (Lost r b) y.source found.2.1.1 in
        let z = next_source.0 in
        let lost = next_source.2 in
        let none : None ≡ source_of y.source = sym (ap source_of next_source.1 ∙ ap (λ f. cond f None (Some (Source.AtWorker z.worker z.tier))) lost.failed) in
        let fits_on : StreamFits r s.known old.master.kept.names.next_id old.block with_no_source y = fits_in_place r s.known old.master.kept.names.next_id old.block m x y fits with_no_source refl refl refl refl refl refl fits.cache (unmoved reads.same) none (subst (λ o. IfSome o (λ z. z.failed ≡ false → ReaderFits r with_no_source z)) (sym next_source.1) (λ still. absurd (failed_not z.failed lost.failed still))) in
        let may : may_test v ≡ true =
        ap (λ b. fault_test v b (hand_at H l)) (tier_rose v) ∙ ap (fault_test v true) at
        ∙ ap (λ q. copy_may_fail remains (Device.TiersOf v) (machine.Hand.Reading (record m { source = q }))) (source_is r s.known old.master.kept.names.next_id old.block old.blocks m x y fits b is good)
        ∙ eq-eqb v b.worker mine in
        record {
          after = put_back V (suc i) V.body (set_hand l (machine.Hand.Reading with_no_source) H);
          rise = tier_rise v;
          made = None;
          stands = stays_set o r w old new l i within rest workers U V s (Hand.Reading x) (Hand.Reading y) (machine.Hand.Reading m) (machine.Hand.Reading with_no_source) at hands fits_on;
          rises = Rises.OfHand v l refl (at_set (HandRose o r w v) i l (Hand.Reading x) (Hand.Reading y) old.hands.items new.hands.items hands (subst (λ k. HandRose o r w k (Hand.Reading x) (Hand.Reading y)) (sym mine) (rose_both o r w r.faults x.source y.source b z is next_source.1 lost.unsteady lost.rose)));
          step = record {
            body = V.body;
            hands = set_hand l (machine.Hand.Reading with_no_source) H;
            step = Step.Failed remains passes may (sym (ap (λ h. let q : BodyAndHands = (V.body, reader_dropped remains l h H) in q) at)) refl;
            after = refl;
          };
        }
      where
        may_test : ℕ → Bool
        may_test v = fault_test v (rose (tier_rise v) (Device.TiersOf v)) (hand_at H l)

        failed_not : (f : Bool) → f ≡ true → f ≡ false → ⊥
        failed_not f yes_ not_ = cc

  -- by what the label has, and what the poll gave
  by_gave : (x y : Stream R) (gave : Gave) → ChangesAt old.hands.items new.hands.items i (SetsHand l (Hand.Reading x) (Hand.Reading y)) → (m : machine.Stream) → hand_at (hands_of V (suc i)) l ≡ Some (machine.Hand.Reading m) → StreamFits r s.known old.master.kept.names.next_id old.block m x → PollOf r old.block max x y gave → Goes d o r w U old new V (suc i) (Event.Poll l max) (reply_of gave)
  by_gave x y Gave.BadLabel hands m at fits p = absurd p
  by_gave x y Gave.End hands m at fits p = poll_ended x y hands m at fits p.0 p.1
  by_gave x y (Gave.NeedsBlock n) hands m at fits p = poll_needs x y hands m at fits n p.0 p.1 p.2 p.3
  by_gave x y (Gave.Given bytes) hands m at fits p = poll_gave x y hands m at fits bytes p
  by_gave x y Gave.NotReady hands m at fits p = poll_waited x y hands m at fits p
  by_gave x y (Gave.Fault v) hands m at fits p = poll_failed x y hands m at fits v p
  by_gave x y Gave.Memory hands m at fits p = goes_short o r w U old new V (suc i) (Event.Poll l max) (kept x y hands m at fits p) refl

  -- where the label has a writer
  poll_writer : (t : Hand R W) (m : machine.Writer) → hand_at (hands_of V (suc i)) l ≡ Some (machine.Hand.Writing m) → ChangesAt old.hands.items new.hands.items i (SetsHand l t t) → Goes d o r w U old new V (suc i) (Event.Poll l max) (Reply.Refused Refusal.BadLabel)
  poll_writer t m at hands = goes_refused o r w U old new V (suc i) (Event.Poll l max) (Reply.Refused Refusal.BadLabel) (stays_kept o r w old new l i within rest workers U V s (sets_same i l t old.hands.items new.hands.items hands)) (ap poll_test at) refl refl

  by_hands : (t u : Hand R W) (gave : Gave) → ChangesAt old.hands.items new.hands.items i (SetsHand l t u) → (k : machine.Hand) → hand_at (hands_of V (suc i)) l ≡ Some k → Fits r w s.known old.workers.items old.master.kept.names.next_id old.block (suc i, l) k t → HandPolls r old.block max t u gave → Goes d o r w U old new V (suc i) (Event.Poll l max) (reply_of gave)
  by_hands (Hand.Reading x) (Hand.Reading y) gave hands (machine.Hand.Reading m) at fits p = by_gave x y gave hands m at fits p
  by_hands (Hand.Reading x) (Hand.Reading y) gave hands (machine.Hand.Writing m) at fits p = absurd fits
  by_hands (Hand.Reading x) (Hand.Reading y) gave hands (machine.Hand.Moving m) at fits p = absurd fits
  by_hands (Hand.Reading x) (Hand.Reading y) gave hands (machine.Hand.Storing m) at fits p = absurd fits
  by_hands (Hand.Reading x) (Hand.Writing y) gave hands k at fits p = absurd p
  by_hands (Hand.Writing x) u gave hands (machine.Hand.Reading m) at fits p = absurd fits
  by_hands (Hand.Writing x) u gave hands (machine.Hand.Writing m) at fits p =
      subst (λ g. Goes d o r w U old new V (suc i) (Event.Poll l max) (reply_of g)) (sym p.1) (poll_writer (Hand.Writing x) m at (subst (λ k. ChangesAt old.hands.items new.hands.items i (SetsHand l (Hand.Writing x) k)) p.0 hands))
  by_hands (Hand.Writing x) u gave hands (machine.Hand.Moving m) at fits p = absurd fits
  by_hands (Hand.Writing x) u gave hands (machine.Hand.Storing m) at fits p = absurd fits

  pub polled_goes : (t u : Hand R W) (gave : Gave) → ChangesAt old.hands.items new.hands.items i (SetsHand l t u) → HandPolls r old.block max t u gave → Goes d o r w U old new V (suc i) (Event.Poll l max) (reply_of gave)
  polled_goes t u gave hands p =
      let found = fits_at r w s.known old.workers.items old.master.kept.names.next_id old.block V.hands old.hands.items s.hands i within l t (set_there i l t u old.hands.items new.hands.items hands) in
      by_hands t u gave hands found.0 found.1 found.2 p

-- ---- for any actor

module _ {D S R W : Type 0} {d : disks.Ghosts D} (o : objects.Ghosts S R W) (r : reads.Ghosts R) (w : writes.Ghosts W) (old mid : Core D S R W d w) (who : ℕ) (actor : is_actor who ≡ true) (l : Label) (max : ℕ) (rest : KeepsRest old mid) (workers : mid.workers ≡ old.workers) where
  pub poll_no_label : IsSomeAnd (slice_get old.hands.items (pred who)) (λ s. hand_in s l ≡ None) → ChangesAt old.hands.items mid.hands.items (pred who) KeepsHands → Steps d o r w old mid who (Event.Poll l max) (Reply.Refused Refusal.BadLabel)
  poll_no_label absent hands = by_actor (λ k. IsSomeAnd (slice_get old.hands.items (pred k)) (λ s. hand_in s l ≡ None) → ChangesAt old.hands.items mid.hands.items (pred k) KeepsHands → Steps d o r w old mid k (Event.Poll l max) (Reply.Refused Refusal.BadLabel))
      (λ i within absent hands. λ U V s. poll_missing o r w old mid l max i within rest (ap (λ x. x.items) workers) U V s (absent_at r w s.known old.workers.items old.master.kept.names.next_id old.block V.hands old.hands.items s.hands i within l absent) hands) who actor absent hands

  pub poll_label : (new : Core D S R W d w) (t u : Hand R W) (k : Label) (gave : Gave) (reply : Reply) → reply ≡ reply_of gave → k ≡ l → ChangesAt old.hands.items mid.hands.items (pred who) (EndsHand l t) → KeepsRest mid new → new.workers ≡ mid.workers → ChangesAt mid.hands.items new.hands.items (pred who) (AddsHand k u)
      → HandPolls r mid.block max t u gave → Steps d o r w old new who (Event.Poll l max) reply
  poll_label new t u k gave reply is same ended more more_workers added p = by_actor (λ j. ChangesAt old.hands.items mid.hands.items (pred j) (EndsHand l t) → ChangesAt mid.hands.items new.hands.items (pred j) (AddsHand k u) → Steps d o r w old new j (Event.Poll l max) reply)
      (λ i within ended added. λ U V s. subst (λ a. Goes d o r w U old new V (suc i) (Event.Poll l max) a) (sym is) (polled_goes o r w old new l max i within (rest_both rest more) (ap (λ x. x.items) (more_workers ∙ workers)) U V s t u gave (sets_hand i l k t u old.hands.items mid.hands.items new.hands.items same ended added) (subst (λ b. HandPolls r b max t u gave) rest.block p))) who actor ended added
