-- The text of an area as it is written, entry by entry.
use Rattle.std.proofs.Common.{◌≡◌, ℕ, ◌+◌, ◌<◌, List, ◌∷◌, ◌++◌, length, drop, get_or, sym, ◌∙◌, ap, append_assoc}
use Rattle.std.specs.List.{flat_map}
use Rattle.std.proofs.lemmas.List.{drop_more}
use Rattle.journal_entry.specs.declared.entry.Entry.{Entry}
use Rattle.journal_disk.specs.AreaText.{gated}

-- one entry more
pub written_more : (old now new : List ℕ) (es : List Entry) (i : ℕ) (e : Entry) → i < length es → e ≡ get_or es i e → now ++ flat_map gated (drop i es) ≡ old ++ flat_map gated es → new ≡ now ++ gated e → new ++ flat_map gated (drop (i + 1) es) ≡ old ++ flat_map gated es
written_more old now new es i e lt is so_far more =
    let rest = flat_map gated (drop (i + 1) es) in
    let here : drop i es ≡ e ∷ drop (i + 1) es = drop_more es i e lt ∙ ap (λ (x : Entry). x ∷ drop (i + 1) es) (sym is) in
    ap (λ (l : List ℕ). l ++ rest) more ∙ append_assoc now (gated e) rest ∙ ap (λ (l : List Entry). now ++ flat_map gated l) (sym here) ∙ so_far
