-- Whether a record is in the book, and of which sort.
use Rattle.std.specs.Prelude.{ℕ, Bool, not, ◌&&◌, ◌||◌, List, unwrap_or, option_map, count_by, ◌==◌, nat_eq}
use Rattle.std.specs.List.{list_any, find}
use Rattle.tables.specs.Keys.{count_if}
use Rattle.terms.specs.Codes.{kind_code}
use Rattle.terms.specs.Owners.{is_of}
use Rattle.terms.specs.declared.codes.Kind.{Kind}
use Rattle.terms.specs.declared.codes.Kind.TheVariants.{Retail}
use Rattle.terms.specs.declared.codes.OwnerKind.{OwnerKind}
use Rattle.terms.specs.declared.codes.OwnerKind.TheVariants.{RetailContract, CurtailmentGroup}
use Rattle.terms.specs.declared.records.Contract.{Contract}
use Rattle.terms.specs.declared.records.Group.{Group}
use Rattle.terms.specs.declared.records.Line.{Line}
use Rattle.terms.specs.declared.records.Owner.{Owner}
use Rattle.terms.specs.declared.records.Place.{Place}
use Rattle.terms.specs.declared.records.Plant.{Plant}
use Rattle.terms.specs.declared.records.Share.{Share}
use Rattle.trades.specs.Laws.{same_partner}
use Rattle.trades.specs.Trades.{turned}
use Rattle.settlement.specs.Area.{Filed, is_generating}
use Rattle.book.specs.declared.keys.LineKey.{LineKey}
use Rattle.book.specs.declared.keys.ShareKey.{ShareKey}

abbrev pub same_kind : Kind → Kind → Bool
same_kind one other = kind_code one == kind_code other

-- Contracts.
abbrev pub is_contract : ℕ → Contract → Bool
is_contract number c = c.number == number

abbrev pub is_contract_of : Kind → ℕ → Contract → Bool
is_contract_of kind number c = c.number == number && same_kind kind c.kind

abbrev pub has_contract : Filed → ℕ → Bool
has_contract f number = list_any (is_contract number) f.contracts

abbrev pub has_contract_of : Filed → Kind → ℕ → Bool
has_contract_of f kind number = list_any (is_contract_of kind number) f.contracts

-- Groups: both sorts share one series of numbers.
abbrev pub is_group : ℕ → Group → Bool
is_group number g = g.number == number

abbrev pub is_generating_group : ℕ → Group → Bool
is_generating_group number g = g.number == number && is_generating g.sort

abbrev pub is_curtailment_group : ℕ → Group → Bool
is_curtailment_group number g = g.number == number && not (is_generating g.sort)

abbrev pub has_group : Filed → ℕ → Bool
has_group f number = list_any (is_group number) f.groups

abbrev pub has_generating_group : Filed → ℕ → Bool
has_generating_group f number = list_any (is_generating_group number) f.groups

abbrev pub has_curtailment_group : Filed → ℕ → Bool
has_curtailment_group f number = list_any (is_curtailment_group number) f.groups

-- Meters: plants and places share one series of numbers.
abbrev pub is_plant : ℕ → Plant → Bool
is_plant meter p = p.meter == meter

abbrev pub is_place : ℕ → Place → Bool
is_place meter p = p.meter == meter

abbrev pub has_plant : Filed → ℕ → Bool
has_plant f meter = list_any (is_plant meter) f.plants

abbrev pub has_place : Filed → ℕ → Bool
has_place f meter = list_any (is_place meter) f.places

abbrev pub has_meter : Filed → ℕ → Bool
has_meter f meter = has_plant f meter || has_place f meter

-- Owners of places.
abbrev pub has_owner : Filed → OwnerKind → ℕ → Bool
has_owner f RetailContract number = has_contract_of f Retail number
has_owner f CurtailmentGroup number = has_curtailment_group f number

abbrev pub places_of : Filed → Owner → ℕ
places_of f owner = count_if (is_of owner) f.places

-- A share is known by group and plant.
abbrev pub is_share : ShareKey → Share → Bool
is_share key s = s.group == key.group && s.plant == key.plant

-- Another share at the plant has this rank.
abbrev pub outranks : ShareKey → ℕ → Share → Bool
outranks key rank s = s.plant == key.plant && s.rank == rank && not (s.group == key.group)

abbrev pub has_outranking : Filed → ShareKey → ℕ → Bool
has_outranking f key rank = list_any (outranks key rank) f.shares

-- The contract of the group with this number; 0 where there is none.
abbrev pub contract_of_group : List Group → ℕ → ℕ
contract_of_group groups number = unwrap_or (option_map (λ (g : Group). g.contract) (find (is_group number) groups)) 0

-- How many shares the groups of a contract have.
abbrev pub shares_of_contract : Filed → ℕ → ℕ
shares_of_contract f contract = count_by (λ (s : Share). nat_eq (contract_of_group f.groups s.group) contract) f.shares

-- A line is known by contract, direction and partner.
abbrev pub is_line : LineKey → Line → Bool
is_line key l = l.contract == key.contract && (not (turned l.direction key.direction) && same_partner l.partner key.partner)

abbrev pub lines_of_contract : Filed → ℕ → ℕ
lines_of_contract f contract = count_by (λ (l : Line). nat_eq l.contract contract) f.lines
