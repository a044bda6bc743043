-- What an opening over areas and stores gives.
use Rattle.std.specs.Prelude.{◌≡◌, ℕ, max, true, false, cond, List, [], map, length, replicate, nat_eq, Option, Some, None, option_and_then, unwrap_or, filter_map}
use Rattle.std.specs.List.{list_any, last_or, range_with_len}
use Rattle.fs_model.specs.declared.setup.Setup.{Setup}
use Rattle.fs_model.specs.State.{State, Whole, Names, NodeRow, Registration}
use Rattle.fs_model.specs.Lookups.{file_in, no_worker}
use Rattle.fs_model.specs.Mirror.{Mirror, Contents}

-- ---- Opened

-- a row for each worker that is configured or seen
abbrev pub registration_count : Setup → Names → ℕ
registration_count S N = max (length S.tiers) (unwrap_or (last_or None N.seen) 0)

-- nobody is known; awaited is seen
abbrev pub first_registration : Names → ℕ → Registration
first_registration N w = record { known = false; awaited = list_any (nat_eq w) N.seen; silence = 0 }

-- nobody runs, nobody is known, nothing is cached, labelled or in doubt
abbrev pub first_body : Setup → Names → ℕ → ℕ → State
first_body S N gate generation = record {
  names = N;
  contents = [];
  progress = [];
  registrations = map (first_registration N) (range_with_len 1 (registration_count S N));
  workers = map (λ t. no_worker) S.tiers;
  stores = [];
  holds = [];
  master = record { up = true; gate = gate; generation = generation; doubt = None; fuse = None };
}

-- the files that are done, with their lengths
abbrev pub done_shape : NodeRow → Option (ℕ × ℕ)
done_shape r = option_and_then (λ f. cond f.done (Some (f.id, f.len)) None) (file_in r.1)

-- the ids and lengths of the done files
abbrev pub done_shapes : Names → List (ℕ × ℕ)
done_shapes N = filter_map done_shape N.nodes

-- the ids and lengths of the bytes that are kept
abbrev pub content_shapes : State → List (ℕ × ℕ)
content_shapes A = map (λ c. (c.file, length c.bytes)) A.contents

-- the state over areas that give these names, gate and generation: for fresh areas those of the first load and the first checkpoint
pub record Opened (S : Setup) (N : Names) (gate : ℕ) (generation : ℕ) (stores : List (Option Contents)) (W : Whole) : Type 0 where
  pub body : W.body ≡ record (first_body S N gate generation) { contents = W.body.contents; stores = W.body.stores }
  pub hands : W.hands ≡ replicate 64 []
  pub bytes : content_shapes W.body ≡ done_shapes N
  pub mirror : Mirror W.body stores
