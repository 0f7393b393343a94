-- The corrected plans of every contract.
use Rattle.std.specs.Prelude.{◌≡◌, ℕ, ◌<◌, List, length, ℤ, pos, ◌≢◌, slice_index_or, unsigned_abs}
use Rattle.std.specs.List.{AllByRecursion}
use Rattle.terms.specs.declared.records.Contract.{Contract}
use Rattle.terms.specs.declared.records.Group.{Group}
use Rattle.terms.specs.declared.records.Line.{Line}
use Rattle.terms.specs.declared.records.Share.{Share}
use Rattle.trades.specs.Trades.{net_of}
use Rattle.division.specs.Signed.{signed_parts}
use Rattle.planning.specs.Plans.{group_claims, share_claims, plans_of_groups, plans_of_shares}

-- What correction leaves at groups and shares, contract by contract.
pub record PlansCorrected (first second : ℕ → List ℕ → List ℕ) (contracts : List Contract) (lines : List Line) (figures : List ℕ) (groups : List Group) (shares : List Share)
    (groups_before groups_after shares_before shares_after : List ℤ) : Type 0 where
  -- the figures of a contract's groups are the first rule's parts of its sales less purchases, in listed order
  pub group_parts : (j : ℕ) (c : Contract) → j < length contracts → c ≡ slice_index_or contracts j c →
      plans_of_groups c.number groups groups_after ≡ signed_parts (net_of c.number lines figures) (first (unsigned_abs (net_of c.number lines figures)) (group_claims c.number groups shares))
  -- the plans of the shares of each of its groups are the second rule's parts of the group's figure, in listed order
  pub share_parts : (j : ℕ) (c : Contract) → j < length contracts → c ≡ slice_index_or contracts j c → (k : ℕ) (g : Group) → k < length groups → g ≡ slice_index_or groups k g → g.contract ≡ c.number →
      plans_of_shares g.number shares shares_after ≡ signed_parts (slice_index_or groups_after k (pos 0)) (second (unsigned_abs (slice_index_or groups_after k (pos 0))) (share_claims g.number shares))
  -- a group of no contract keeps its figure, and a share of no group its plan
  pub other_groups : (k : ℕ) (g : Group) → k < length groups → g ≡ slice_index_or groups k g → AllByRecursion (λ c. c.number ≢ g.contract) contracts → slice_index_or groups_after k (pos 0) ≡ slice_index_or groups_before k (pos 0)
  pub other_shares : (i : ℕ) (s : Share) → i < length shares → s ≡ slice_index_or shares i s → AllByRecursion (λ g. g.number ≢ s.group) groups → slice_index_or shares_after i (pos 0) ≡ slice_index_or shares_before i (pos 0)
