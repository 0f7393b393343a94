-- Two levels: an owner's whole among the owner's heads, and each head's part among the head's members.
-- Heads have numbers, and a member belongs to the head whose number it names.
use Rattle.std.specs.Prelude.{◌≡◌, ℕ, ◌<◌, ◌≤◌, cond, List, [], ◌∷◌, length, ℤ, pos, sum, ◌==◌, ◌≢◌, slice_index_or, unsigned_abs}
use Rattle.std.specs.List.{AllByRecursion}
use Rattle.std.proofs.Props.{props}
use mathlib.Core.HLevel.{Unit-prop, ×_prop}
use Rattle.tables.specs.Carried.{claims_of}
use Rattle.sharing.specs.Owners.{count_of, figures_of, added_up, parts_for, shared, SharedOut}

-- No two heads have one number.
abbrev pub Apart : {H : Type 0} → (H → ℕ) → List H → Type 0
Apart numbered [] = Unit {0}
Apart numbered (h ∷ hs) = AllByRecursion (λ k. numbered k ≢ numbered h) hs × Apart numbered hs

-- It has one proof at most, so that a value may keep it.
pub Apart-prop : {H : Type 0} (numbered : H → ℕ) (hs : List H) → IsProp (Apart numbered hs)
Apart-prop numbered [] = Unit-prop
Apart-prop numbered (h ∷ hs) = ×_prop (hlevel props) (Apart-prop numbered hs)

-- What a head claims, from what its members carry together.
abbrev pub claim_of : {H M : Type 0} → (H → ℕ → ℕ) → (H → ℕ) → (M → ℕ) → (M → ℕ) → List M → H → ℕ
claim_of claimed numbered belongs carried members h = claimed h (sum (claims_of belongs carried (numbered h) members))

-- The whole among the owner's heads.
abbrev pub figures_of_heads : {H M : Type 0} → (ℕ → List ℕ → List ℕ) → (H → ℕ → ℕ) → (H → ℕ) → (H → ℕ) → (M → ℕ) → (M → ℕ) → ℕ → ℤ → List M → List H → List ℤ → List ℤ
figures_of_heads rule claimed owned numbered belongs carried owner whole members heads figures =
    shared rule owned (claim_of claimed numbered belongs carried members) owner whole heads figures

-- The figure of each of the owner's heads among the head's members.
abbrev pub figures_of_members : {H M : Type 0} → (ℕ → List ℕ → List ℕ) → (H → ℕ) → (H → ℕ) → (M → ℕ) → (M → ℕ) → ℕ → List M → List H → List ℤ → List ℤ → List ℤ
figures_of_members rule owned numbered belongs carried owner members [] parts figures = figures
figures_of_members rule owned numbered belongs carried owner members (h ∷ hs) [] figures = figures
figures_of_members rule owned numbered belongs carried owner members (h ∷ hs) (p ∷ ps) figures =
    figures_of_members rule owned numbered belongs carried owner members hs ps (cond (owned h == owner) (shared rule belongs carried (numbered h) p members figures) figures)

-- The figures of the owner's rows are those of a division: no larger than the largest whole.
abbrev pub Small : {T : Type 0} → (T → ℕ) → ℕ → List T → List ℤ → Type 0
Small {T} owned owner rows figures = (k : ℕ) (r : T) → k < length rows → r ≡ slice_index_or rows k r → owned r ≡ owner → unsigned_abs (slice_index_or figures k (pos 0)) ≤ 128000000

-- What the division on two levels does, head by head and member by member.
pub record SharedOnLevels {H M : Type 0} (first second : ℕ → List ℕ → List ℕ) (claimed : H → ℕ → ℕ) (owned numbered : H → ℕ) (belongs carried : M → ℕ) (owner : ℕ) (whole : ℤ)
    (heads : List H) (members : List M) (heads_before heads_after members_before members_after : List ℤ) : Type 0 where
  -- the whole is shared out among the owner's heads by the first rule, by what they claim
  pub heads_shared : SharedOut first owned (claim_of claimed numbered belongs carried members) owner whole heads heads_before heads_after
  -- the figures of the members of each of the owner's heads are the second rule's parts of the head's figure, in listed order
  pub parts : (k : ℕ) (h : H) → k < length heads → h ≡ slice_index_or heads k h → owned h ≡ owner →
      figures_of belongs (numbered h) members members_after ≡ parts_for second belongs carried (numbered h) (slice_index_or heads_after k (pos 0)) members
  -- a member of none of the owner's heads keeps its figure
  pub others : (i : ℕ) (m : M) → i < length members → m ≡ slice_index_or members i m → AllByRecursion (λ h. owned h ≡ owner → numbered h ≢ belongs m) heads →
      slice_index_or members_after i (pos 0) ≡ slice_index_or members_before i (pos 0)
  -- the members of each of the owner's heads come to the head's figure
  pub adds : (k : ℕ) (h : H) → k < length heads → h ≡ slice_index_or heads k h → owned h ≡ owner → 1 ≤ count_of belongs (numbered h) members →
      added_up (figures_of belongs (numbered h) members members_after) ≡ slice_index_or heads_after k (pos 0)
