-- What a master that stands for a state gives.
use Rattle.std.proofs.Common.{◌≡◌, ◌⊎◌, inl, inr, ℕ, Bool, true, false, IsTrue, List, Option, Some, None, refl, sym, ap, ◌∙◌, arith}
use Rattle.std.proofs.lemmas.Bool.{le-leb}
use Rattle.fs_model.specs.declared.reply.Reply.{Reply}
use Rattle.fs_model.specs.declared.reply.Refusal.{Refusal}
use Rattle.fs_model.specs.State.{State, Names, NodeRow}
use Rattle.fs_model.specs.Tests.{refuse, stopped}
use Rattle.fs_model.specs.Journaling.{fuse_serves}
use Rattle.master_node.specs.Mastering.{Mastering}
use Rattle.cluster_core.specs.Names.{stop_test}
use Rattle.cluster_core.specs.NamesStand.{NamesStand}
use Rattle.cluster_core.specs.Knowledge.{Knowledge, Holder}
use Rattle.cluster_core.specs.HandFits.{Writes}

-- a label that isn't broken writes its file
pub writes_whole : (K : Knowledge) (id : ℕ) (a : Holder) (broken : Bool) → Writes K id a broken → broken ≡ false → K.author id ≡ Some a
writes_whole K id a broken (inl mine) whole = mine
writes_whole K id a broken (inr none) whole = let never : true ≡ false = sym none.0 ∙ whole in absurd (cc)

-- an event that calls no area is served by each fuse
pub serves_none : (fuse : Option ℕ) → IsTrue (fuse_serves fuse 0)
serves_none None = refl
serves_none (Some k) = le-leb 0 k (omega arith)

module _ {D : Type 0} {m : Mastering D} {A : State} (s : NamesStand m A) where
  pub nodes_are : A.names.nodes ≡ m.kept.names.nodes
  nodes_are = ap (λ (n : Names). n.nodes) s.names

  pub next_id_is : A.names.next_id ≡ m.kept.names.next_id
  next_id_is = ap (λ (n : Names). n.next_id) s.names

  -- the master is stopped on both sides or on neither
  pub stopped_is : stopped A ≡ stop_test m
  stopped_is = ap (refuse Refusal.Stopped) s.down
