-- The step of the loop that puts the claims at a plant in turn, and what is read past the end of lists.
use Rattle.std.proofs.Common.{◌≡◌, ℕ, suc, ◌+◌, ◌-◌, ◌≤◌, eqb, List, [], ◌∷◌, ◌++◌, Some, None, Option, sym, ap, ◌∙◌, arith}
use Rattle.std.proofs.lemmas.List.{append_assoc}
use Rattle.tables.specs.Keys.{first_of}
use Rattle.terms.specs.declared.records.Share.{Share}
use Rattle.allotment.specs.declared.claims.Claim.{Claim}
use Rattle.allotment.specs.Claims.{before, turns_from, in_turn}

-- what is read past the end of a list of shares
abbrev pub blank : Share
blank = record { group = 0; plant = 0; rank = 0; planned = 0 }

-- one rank on: the claim of the rank is listed, where there is one
module _ (claims : List Claim) (rank : ℕ) (below : rank ≤ 99) (out out' : List Claim) (inv : out ++ turns_from rank (100 - rank) claims ≡ in_turn claims) where
  abbrev later : List Claim
  later = turns_from (rank + 1) (100 - (rank + 1)) claims

  turn-here : (o : Option Claim) → o ≡ first_of (λ c. eqb c.rank rank) claims → out ++ before o later ≡ in_turn claims
  unfolding turns_from
  turn-here o found =
      let n : 100 - rank ≡ suc (100 - (rank + 1)) = omega arith in
      sym (ap (λ m. out ++ turns_from rank m claims) n ∙ sym (ap (λ q. out ++ before q later) found)) ∙ inv

  pub turn-some : (c : Claim) → Some c ≡ first_of (λ c. eqb c.rank rank) claims → out' ≡ out ++ c ∷ [] → out' ++ later ≡ in_turn claims
  turn-some c found pushed = ap (λ q. q ++ later) pushed ∙ append_assoc out (c ∷ []) later ∙ turn-here (Some c) found

  pub turn-none : None ≡ first_of (λ c. eqb c.rank rank) claims → out' ≡ out → out' ++ later ≡ in_turn claims
  turn-none found same = ap (λ q. q ++ later) same ∙ turn-here None found
