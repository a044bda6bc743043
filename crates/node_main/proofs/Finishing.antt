-- An end, once its line was told.
use Rattle.std.proofs.Common.{◌≡◌, ◌≢◌, ℕ, ◌≤◌, List, take, Option, None, Some, ◌⊎◌, inl, inr, refl, subst, arith}
use Rattle.std.specs.Option.{IfSome}
use Rattle.fs_model.specs.declared.stop.Stop.{Stop}
use Rattle.outside.specs.Causes.{Rose}
use Rattle.outside.specs.Streams.{Takes}
use Rattle.node_main.specs.declared.run.End.{End}
use Rattle.node_main.specs.declared.run.End.TheVariants as ends
use Rattle.outside.specs.declared.disk.Disk as disks
use Rattle.outside.specs.declared.objects.Objects as objects
use Rattle.outside.specs.declared.objects.ObjectRead as reads
use Rattle.outside.specs.declared.objects.ObjectWrite as writes
use Rattle.node_main.specs.Ends.{Attempted, BeforeLine, BeforeStop, Ended, FinishedAs, Held, IsDue, Kept, ToldAs, end_text, status_of}

-- a count that rose later rose since before
pub rose_since : (a b c : ℕ) → a ≤ b → Rose b c → Rose a c
rose_since a b c h r = omega arith

-- an end that is told only now
pub data IsUntold : End → Type 0 where
  words : IsUntold ends.BadWords
  script : (line : ℕ) → IsUntold (ends.BadScript line)
  reading : IsUntold ends.ReadFault
  memory : IsUntold ends.Memory
  long : IsUntold ends.TooLong
  opening : IsUntold ends.OpenFault
  setup : IsUntold ends.BadSetup
  damage : (area place : ℕ) → IsUntold (ends.Damaged area place)
  journal : IsUntold ends.JournalFault

pub not_write : (end : End) → IsUntold end → end ≢ ends.WriteFault
not_write ends.BadWords u e = cc
not_write (ends.BadScript line) u e = cc
not_write ends.ReadFault u e = cc
not_write ends.Memory u e = cc
not_write ends.TooLong u e = cc
not_write ends.OpenFault u e = cc
not_write ends.BadSetup u e = cc
not_write (ends.Damaged area place) u e = cc
not_write ends.JournalFault u e = cc
not_write ends.Done u e = cc
not_write ends.WriteFault u e = elim u [ ]

pub untold : (end : End) → end ≢ ends.Done → end ≢ ends.WriteFault → IsUntold end
untold ends.Done d w = absurd (d refl)
untold ends.BadWords d w = IsUntold.words
untold (ends.BadScript line) d w = IsUntold.script line
untold ends.ReadFault d w = IsUntold.reading
untold ends.WriteFault d w = absurd (w refl)
untold ends.Memory d w = IsUntold.memory
untold ends.TooLong d w = IsUntold.long
untold ends.OpenFault d w = IsUntold.opening
untold ends.BadSetup d w = IsUntold.setup
untold (ends.Damaged area place) d w = IsUntold.damage area place
untold ends.JournalFault d w = IsUntold.journal

module _ {D S R W : Type 0} (d : disks.Ghosts D) (o : objects.Ghosts S R W) (r : reads.Ghosts R) (w : writes.Ghosts W) (old new : Kept) (held : Option Held) (words : List (List ℕ)) (before mid after : Option (List ℕ)) (world input early sink later : Type 0) (since : later → sink) where
  -- what the sink took before the line of an end
  before_stop : (end : End) → IsUntold end → Attempted d o r w old new held words before mid world input early end → BeforeStop d o r w old new held words before mid
  before_stop ends.Done u a = elim u [ ]
  before_stop ends.BadWords u a = inl (a.1, inl a.2)
  before_stop (ends.BadScript line) u a = inl (a.1, inl a.2)
  before_stop ends.ReadFault u a = inl (a.1, inl a.2)
  before_stop ends.WriteFault u a = elim u [ ]
  before_stop ends.Memory u a = a
  before_stop ends.TooLong u a = inl (a.1, inl a.2)
  before_stop ends.OpenFault u a = inl (a.1, inl a.2)
  before_stop ends.BadSetup u a = inl (a.1, inr (Stop.Setup, a.0.1))
  before_stop (ends.Damaged area place) u a = inl (a.1, inr (Stop.Damaged area place, a.0.1))
  before_stop ends.JournalFault u a = inl (a.1, inr (Stop.JournalFault, a.0.1))

  -- its cause with that
  before_line : (end : End) → IsUntold end → Attempted d o r w old new held words before mid world input early end → BeforeLine d o r w old new held words before mid world input end
  before_line ends.Done u a = elim u [ ]
  before_line ends.BadWords u a = a
  before_line (ends.BadScript line) u a = a
  before_line ends.ReadFault u a = a
  before_line ends.WriteFault u a = elim u [ ]
  before_line ends.Memory u a = a
  before_line ends.TooLong u a = a
  before_line ends.OpenFault u a = a
  before_line ends.BadSetup u a = a
  before_line (ends.Damaged area place) u a = a
  before_line ends.JournalFault u a = a

  moved : (text : List ℕ) → mid ≡ before → Takes mid after text → Takes before after text
  moved text e t = subst (λ x. Takes x after text) e t

  -- the line was told
  told : (end : End) → IsUntold end → Attempted d o r w old new held words before mid world input early end → Takes mid after (end_text end) → Ended d o r w old new held words before after world input sink end
  told ends.Done u a t = elim u [ ]
  told ends.BadWords u a t = (a.0, moved _ a.1 t, a.2)
  told (ends.BadScript line) u a t = (a.0, moved _ a.1 t, a.2)
  told ends.ReadFault u a t = (a.0, moved _ a.1 t, a.2)
  told ends.WriteFault u a t = elim u [ ]
  told ends.Memory u a t = record { between = mid; lines = a; stop = t }
  told ends.TooLong u a t = (a.0, moved _ a.1 t, a.2)
  told ends.OpenFault u a t = (a.0, moved _ a.1 t, a.2)
  told ends.BadSetup u a t = (a.0, moved _ a.1 t)
  told (ends.Damaged area place) u a t = (a.0, moved _ a.1 t)
  told ends.JournalFault u a t = (a.0, moved _ a.1 t)

  partly : (end : End) → BeforeLine d o r w old new held words before mid world input end → (bytes : ℕ) → Takes mid after (take bytes (end_text end)) → later → Ended d o r w old new held words before after world input sink ends.WriteFault
  partly end lines bytes t r = (since r, inr (record { end = end; between = mid; lines = lines; bytes = bytes; stop = t }))

  told_as : (end : End) → IsUntold end → Attempted d o r w old new held words before mid world input early end → (result : End) → ToldAs end mid after later result → Ended d o r w old new held words before after world input sink result
  told_as end u a result (ToldAs.Told t) = told end u a t
  told_as end u a result (ToldAs.Partly bytes t r) = partly end (before_line end u a) bytes t r

  memory_as : BeforeStop d o r w old new held words before mid → (result : End) → ToldAs ends.Memory mid after later result → Ended d o r w old new held words before after world input sink result
  memory_as lines result (ToldAs.Told t) = record { between = mid; lines = lines; stop = t }
  memory_as lines result (ToldAs.Partly bytes t r) = partly ends.Memory lines bytes t r

  pub finished : (end : End) → IsUntold end → Attempted d o r w old new held words before mid world input early end → (result : End) → FinishedAs end mid after later result → Ended d o r w old new held words before after world input sink result
  finished end u a result (inl t) = told_as end u a result t
  finished end u a result (inr t) = memory_as (before_stop end u a) result t

-- ---- what is due

module _ (held : Held) (words : List (List ℕ)) (mid after : Option (List ℕ)) (world input early sink later : Type 0) (since : later → sink) (P : Stop → Type 0) where
  sooner : (end : End) → IsUntold end → IsDue held words world input early P end → IsDue held words world input sink P end
  sooner end u (inl e) = inl e
  sooner end u (inr (inl e)) = inr (inl e)
  sooner end u (inr (inr (inl e))) = inr (inr (inl e))
  sooner end u (inr (inr (inr (inl e)))) = inr (inr (inr (inl e)))
  sooner end u (inr (inr (inr (inr (inl e))))) = absurd (not_write end u e.0)
  sooner end u (inr (inr (inr (inr (inr e))))) = inr (inr (inr (inr (inr e))))

  due_as : (end : End) → IsUntold end → IsDue held words world input early P end → (result : End) → ToldAs end mid after later result → IsDue held words world input sink P result
  due_as end u d result (ToldAs.Told t) = sooner end u d
  due_as end u d result (ToldAs.Partly bytes t r) = inr (inr (inr (inr (inl (refl, since r)))))

  due_memory : (result : End) → ToldAs ends.Memory mid after later result → IsDue held words world input sink P result
  due_memory result (ToldAs.Told t) = inr (inl refl)
  due_memory result (ToldAs.Partly bytes t r) = inr (inr (inr (inr (inl (refl, since r)))))

  pub finished_due : (end : End) → IsUntold end → IsDue held words world input early P end → (result : End) → FinishedAs end mid after later result → IsDue held words world input sink P result
  finished_due end u d result (inl t) = due_as end u d result t
  finished_due end u d result (inr t) = due_memory result t

-- words of no form end so
pub bad_words : (mid after : Option (List ℕ)) (later : Type 0) (end result : End) → end ≡ ends.BadWords → FinishedAs end mid after later result → (result ≡ ends.BadWords) ⊎ (result ≡ ends.WriteFault) ⊎ (result ≡ ends.Memory)
bad_words mid after later end result e (inl (ToldAs.Told t)) = inl e
bad_words mid after later end result e (inl (ToldAs.Partly bytes t r)) = inr (inl refl)
bad_words mid after later end result e (inr (ToldAs.Told t)) = inr (inr refl)
bad_words mid after later end result e (inr (ToldAs.Partly bytes t r)) = inr (inl refl)

-- ---- statuses

pub bad_script : (e : End) → status_of e ≡ 4 → (line : ℕ) × (e ≡ ends.BadScript line)
bad_script (ends.BadScript line) h = (line, refl)
bad_script ends.Done h = absurd (omega arith)
bad_script ends.BadWords h = absurd (omega arith)
bad_script ends.ReadFault h = absurd (omega arith)
bad_script ends.WriteFault h = absurd (omega arith)
bad_script ends.Memory h = absurd (omega arith)
bad_script ends.TooLong h = absurd (omega arith)
bad_script ends.OpenFault h = absurd (omega arith)
bad_script ends.BadSetup h = absurd (omega arith)
bad_script (ends.Damaged area place) h = absurd (omega arith)
bad_script ends.JournalFault h = absurd (omega arith)

pub bad_setup : (e : End) → status_of e ≡ 3 → e ≡ ends.BadSetup
bad_setup ends.BadSetup h = refl
bad_setup ends.Done h = absurd (omega arith)
bad_setup ends.BadWords h = absurd (omega arith)
bad_setup (ends.BadScript line) h = absurd (omega arith)
bad_setup ends.ReadFault h = absurd (omega arith)
bad_setup ends.WriteFault h = absurd (omega arith)
bad_setup (ends.Damaged area place) h = absurd (omega arith)
bad_setup ends.Memory h = absurd (omega arith)
bad_setup ends.TooLong h = absurd (omega arith)
bad_setup ends.OpenFault h = absurd (omega arith)
bad_setup ends.JournalFault h = absurd (omega arith)

pub journal_fault : (e : End) → status_of e ≡ 11 → e ≡ ends.JournalFault
journal_fault ends.JournalFault h = refl
journal_fault ends.Done h = absurd (omega arith)
journal_fault ends.BadWords h = absurd (omega arith)
journal_fault ends.BadSetup h = absurd (omega arith)
journal_fault (ends.BadScript line) h = absurd (omega arith)
journal_fault ends.ReadFault h = absurd (omega arith)
journal_fault ends.WriteFault h = absurd (omega arith)
journal_fault (ends.Damaged area place) h = absurd (omega arith)
journal_fault ends.Memory h = absurd (omega arith)
journal_fault ends.TooLong h = absurd (omega arith)
journal_fault ends.OpenFault h = absurd (omega arith)

pub damaged_at : (e : End) → status_of e ≡ 7 → (area : ℕ) × (place : ℕ) × (e ≡ ends.Damaged area place)
damaged_at (ends.Damaged area place) h = (area, place, refl)
damaged_at ends.Done h = absurd (omega arith)
damaged_at ends.BadWords h = absurd (omega arith)
damaged_at (ends.BadScript line) h = absurd (omega arith)
damaged_at ends.ReadFault h = absurd (omega arith)
damaged_at ends.WriteFault h = absurd (omega arith)
damaged_at ends.Memory h = absurd (omega arith)
damaged_at ends.TooLong h = absurd (omega arith)
damaged_at ends.OpenFault h = absurd (omega arith)
damaged_at ends.BadSetup h = absurd (omega arith)
damaged_at ends.JournalFault h = absurd (omega arith)

pub if_some : {T : Type 0} (o : Option T) (P Q : T → Type 0) → ((x : T) → P x → Q x) → IfSome o P → IfSome o Q
if_some None P Q f h = tt
if_some (Some x) P Q f h = f x h
