-- How a retail contract is settled.
use Rattle.std.specs.Prelude.{ℕ, ◌+◌, List, map, ℤ, pos, ◌-ℤ◌, sum}
use Rattle.tables.specs.Carried.{claims_of}
use Rattle.terms.specs.declared.codes.Direction.TheVariants.{Sale, Purchase}
use Rattle.terms.specs.declared.codes.Kind.{Kind}
use Rattle.terms.specs.declared.codes.Kind.TheVariants.{Generation, Retail, Negawatt}
use Rattle.terms.specs.declared.codes.OwnerKind.TheVariants.{RetailContract}
use Rattle.terms.specs.declared.records.Contract.{Contract}
use Rattle.terms.specs.declared.records.Line.{Line}
use Rattle.terms.specs.declared.records.Owner.{Owner}
use Rattle.terms.specs.declared.records.Place.{Place}
use Rattle.trades.specs.Trades.{traded}
use Rattle.curtailment.specs.Retail.{retail_imbalance}
use Rattle.settlement.specs.Demand.{demand_by}
use Rattle.settlement.specs.declared.retailers.SettledContract.{SettledContract}
use Rattle.settlement.specs.declared.groups.SettledGroup.{SettledGroup}

-- The owner of a retail contract's places.
abbrev pub of_contract : ℕ → Owner
of_contract number = record { kind = RetailContract; number = number }

-- What the customers of the groups that name the retailer were supplied with.
abbrev pub supplied_to : ℕ → List SettledGroup → ℕ
supplied_to number groups = sum (claims_of (λ (g : SettledGroup). g.retailer) (λ (g : SettledGroup). g.supplied) number groups)

-- Corrected purchases less sales.
abbrev pub deemed_demand_of : ℕ → List Line → List ℕ → ℤ
deemed_demand_of number lines figures = pos (traded Purchase number lines figures) -ℤ pos (traded Sale number lines figures)

abbrev pub retail_settled : ℕ → ℤ → SettledContract
retail_settled supplied deemed = record { measured = supplied; imbalance = retail_imbalance supplied deemed }

-- Only a retail contract is settled by itself: the groups of any other are.
abbrev pub not_settled : SettledContract
not_settled = record { measured = 0; imbalance = pos 0 }

-- The retailer supplied its own metered demand and what the groups that name it were supplied with.
abbrev pub retail_supplied : (ℕ → ℕ) → List Place → List SettledGroup → Contract → ℕ
retail_supplied reads places groups c = demand_by reads places c.multiplier (of_contract c.number) + supplied_to c.number groups

module _ (reads : ℕ → ℕ) (places : List Place) (lines : List Line) (figures : List ℕ) (groups : List SettledGroup) where
  abbrev pub settled_in : Kind → Contract → SettledContract
  settled_in Generation c = not_settled
  settled_in Retail c = retail_settled (retail_supplied reads places groups c) (deemed_demand_of c.number lines figures)
  settled_in Negawatt c = not_settled

  abbrev pub contract_settled : Contract → SettledContract
  contract_settled c = settled_in c.kind c

  abbrev pub contracts_settled : List Contract → List SettledContract
  contracts_settled contracts = map contract_settled contracts
