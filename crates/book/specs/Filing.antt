-- What each filing call answers, and what it leaves.
use Rattle.std.specs.Prelude.{ℕ, Bool, cond, not, ◌&&◌, ◌||◌, List, [], ◌∷◌, ◌++◌, length, is_some, Some, None, Option, ◌==◌, nat_le, nat_lt}
use Rattle.tables.specs.Apart.{has}
use Rattle.tables.specs.Filing.{upsert}
use Rattle.metering.specs.Lookup.{is_number}
use Rattle.terms.specs.Codes.{kind_of, owner_kind_of, method_of, stated}
use Rattle.terms.specs.declared.codes.Kind.{Kind}
use Rattle.terms.specs.declared.codes.Kind.TheVariants.{Generation, Retail, Negawatt}
use Rattle.terms.specs.declared.codes.Method.{Method}
use Rattle.terms.specs.declared.codes.OwnerKind.{OwnerKind}
use Rattle.terms.specs.declared.records.Contract.{Contract}
use Rattle.terms.specs.declared.records.Group.{Group}
use Rattle.terms.specs.declared.records.GroupSort.TheVariants.{Generation as Generating, Curtailment as Curtailing}
use Rattle.terms.specs.declared.records.Line.{Line}
use Rattle.terms.specs.declared.records.Place.{Place}
use Rattle.terms.specs.declared.records.Plant.{Plant}
use Rattle.terms.specs.declared.records.Share.{Share}
use Rattle.terms.specs.declared.refusal.Refusal.{Refusal}
use Rattle.terms.specs.declared.refusal.Refusal.TheVariants.{UnknownCode, NumberOutOfRange, FigureOutOfRange, UnknownRecord, NumberTaken, TradeWithItself, PlanAboveBaseline, RankTaken, Full}
use Rattle.settlement.specs.Area.{Filed}
use Rattle.book.specs.declared.keys.LineCodes.{LineCodes}
use Rattle.book.specs.declared.keys.LineKey.{LineKey}
use Rattle.book.specs.declared.keys.ShareKey.{ShareKey}
use Rattle.book.specs.declared.rows.Figure.{Figure}
use Rattle.book.specs.declared.rows.Figure.TheVariants.{Planned, Agreed}
use Rattle.book.specs.Judging.{first}
use Rattle.book.specs.Keys.{line_key}
use Rattle.book.specs.Looking.{has_contract, has_contract_of, has_group, has_generating_group, has_plant, has_meter, has_owner, places_of, is_share, has_outranking, contract_of_group, shares_of_contract, is_line, lines_of_contract}
use Rattle.book.specs.Ranges.{is_partner, is_figure, is_rank, is_multiplier}

-- One table changed, the others as they were.
abbrev pub with_contracts : Filed → List Contract → Filed
with_contracts f contracts = record { contracts = contracts; groups = f.groups; plants = f.plants; shares = f.shares; lines = f.lines; places = f.places }

abbrev pub with_groups : Filed → List Group → Filed
with_groups f groups = record { contracts = f.contracts; groups = groups; plants = f.plants; shares = f.shares; lines = f.lines; places = f.places }

abbrev pub with_plants : Filed → List Plant → Filed
with_plants f plants = record { contracts = f.contracts; groups = f.groups; plants = plants; shares = f.shares; lines = f.lines; places = f.places }

abbrev pub with_shares : Filed → List Share → Filed
with_shares f shares = record { contracts = f.contracts; groups = f.groups; plants = f.plants; shares = shares; lines = f.lines; places = f.places }

abbrev pub with_lines : Filed → List Line → Filed
with_lines f lines = record { contracts = f.contracts; groups = f.groups; plants = f.plants; shares = f.shares; lines = lines; places = f.places }

abbrev pub with_places : Filed → List Place → Filed
with_places f places = record { contracts = f.contracts; groups = f.groups; plants = f.plants; shares = f.shares; lines = f.lines; places = places }

-- contract: a number, a kind and a loss multiplier.
abbrev pub contract_refusal : Filed → ℕ → ℕ → ℕ → Option Refusal
contract_refusal f number kind multiplier = first (
    (not (is_some (kind_of kind)), UnknownCode)
    ∷ (not (is_number number), NumberOutOfRange)
    ∷ (not (is_multiplier multiplier), FigureOutOfRange)
    ∷ (has_contract f number, NumberTaken)
    ∷ (nat_le 48 (length f.contracts), Full)
    ∷ [])

abbrev pub contract_of : Filed → ℕ → Option Kind → ℕ → Filed
contract_of f number None multiplier = f
contract_of f number (Some kind) multiplier = with_contracts f (f.contracts ++ record { number = number; kind = kind; multiplier = multiplier } ∷ [])

abbrev pub contract_filed : Filed → ℕ → ℕ → ℕ → Filed
contract_filed f number kind multiplier = contract_of f number (kind_of kind) multiplier

-- group: a group number and its generation contract.
abbrev pub group_refusal : Filed → ℕ → ℕ → Option Refusal
group_refusal f number contract = first (
    (not (is_number number && is_number contract), NumberOutOfRange)
    ∷ (not (has_contract_of f Generation contract), UnknownRecord)
    ∷ (has_group f number, NumberTaken)
    ∷ (nat_le 96 (length f.groups), Full)
    ∷ [])

abbrev pub group_filed : Filed → ℕ → ℕ → Filed
group_filed f number contract = with_groups f (f.groups ++ record { number = number; contract = contract; sort = Generating } ∷ [])

-- curtailment: a group number, its negawatt contract, a retail contract, baseline, plan and method.
abbrev pub curtailment_refusal : Filed → ℕ → ℕ → ℕ → ℕ → ℕ → ℕ → Option Refusal
curtailment_refusal f number contract retailer baseline plan method = first (
    (not (is_some (method_of (stated method))), UnknownCode)
    ∷ (not (is_number number && is_number contract && is_number retailer), NumberOutOfRange)
    ∷ (not (is_figure baseline && is_figure plan), FigureOutOfRange)
    ∷ (not (has_contract_of f Negawatt contract && has_contract_of f Retail retailer), UnknownRecord)
    ∷ (has_group f number, NumberTaken)
    ∷ (nat_lt baseline plan, PlanAboveBaseline)
    ∷ (nat_le 96 (length f.groups), Full)
    ∷ [])

abbrev pub curtailment_of : Filed → ℕ → ℕ → ℕ → ℕ → ℕ → Option Method → Filed
curtailment_of f number contract retailer baseline plan None = f
curtailment_of f number contract retailer baseline plan (Some method) =
    with_groups f (f.groups ++ record { number = number; contract = contract; sort = Curtailing (record { retailer = retailer; baseline = baseline; plan = plan; method = method }) } ∷ [])

abbrev pub curtailment_filed : Filed → ℕ → ℕ → ℕ → ℕ → ℕ → ℕ → Filed
curtailment_filed f number contract retailer baseline plan method = curtailment_of f number contract retailer baseline plan (method_of (stated method))

-- plant: a meter number.
abbrev pub plant_refusal : Filed → ℕ → Option Refusal
plant_refusal f meter = first (
    (not (is_number meter), NumberOutOfRange)
    ∷ (has_meter f meter, NumberTaken)
    ∷ (nat_le 128 (length f.plants), Full)
    ∷ [])

abbrev pub plant_filed : Filed → ℕ → Filed
plant_filed f meter = with_plants f (f.plants ++ record { meter = meter } ∷ [])

-- share: a generation group, a plant, a rank and the planned kWh. A known share gets another rank and plan.
abbrev pub share_key : ℕ → ℕ → ShareKey
share_key group plant = record { group = group; plant = plant }

-- A new share finds no room: the table is full, or the shares of its group's contract are 64.
abbrev pub no_share_room : Filed → ShareKey → Bool
no_share_room f key = not (has (is_share key) f.shares) && (nat_le 256 (length f.shares) || nat_le 64 (shares_of_contract f (contract_of_group f.groups key.group)))

abbrev pub share_refusal : Filed → ℕ → ℕ → ℕ → ℕ → Option Refusal
share_refusal f group plant rank kwh = first (
    (not (is_number group && is_number plant), NumberOutOfRange)
    ∷ (not (is_rank rank && is_figure kwh), FigureOutOfRange)
    ∷ (not (has_generating_group f group && has_plant f plant), UnknownRecord)
    ∷ (has_outranking f (share_key group plant) rank, RankTaken)
    ∷ (no_share_room f (share_key group plant), Full)
    ∷ [])

abbrev pub new_share : ShareKey → ℕ → ℕ → Share
new_share key rank kwh = record { group = key.group; plant = key.plant; rank = rank; planned = kwh }

abbrev pub reshared : ℕ → ℕ → Share → Share
reshared rank kwh s = record { group = s.group; plant = s.plant; rank = rank; planned = kwh }

abbrev pub share_filed : Filed → ShareKey → ℕ → ℕ → Filed
share_filed f key rank kwh = with_shares f (upsert (is_share key) (reshared rank kwh) (new_share key rank kwh) f.shares)

-- line and result: a contract, a direction, a partner and the planned or the agreed kWh. Each sets its own figure alone.
abbrev pub no_line_room : Filed → LineKey → Bool
no_line_room f key = not (has (is_line key) f.lines) && (nat_le 512 (length f.lines) || nat_le 64 (lines_of_contract f key.contract))

abbrev pub new_line : LineKey → ℕ → ℕ → Line
new_line key planned agreed = record { contract = key.contract; direction = key.direction; partner = key.partner; planned = planned; agreed = agreed }

abbrev pub refigured : Figure → Line → Line
refigured (Planned kwh) l = record { contract = l.contract; direction = l.direction; partner = l.partner; planned = kwh; agreed = l.agreed }
refigured (Agreed kwh) l = record { contract = l.contract; direction = l.direction; partner = l.partner; planned = l.planned; agreed = kwh }

abbrev pub figure_set : Filed → LineKey → Figure → Filed
figure_set f key figure = with_lines f (upsert (is_line key) (refigured figure) (refigured figure (new_line key 0 0)) f.lines)

-- What judges a line by its key.
abbrev pub key_refusal : Filed → LineCodes → ℕ → LineKey → Option Refusal
key_refusal f codes kwh key = first (
    (not (is_number key.contract && is_partner codes.kind codes.number), NumberOutOfRange)
    ∷ (not (is_figure kwh), FigureOutOfRange)
    ∷ (not (has_contract f key.contract), UnknownRecord)
    ∷ (codes.kind == 3 && (codes.number == key.contract), TradeWithItself)
    ∷ (no_line_room f key, Full)
    ∷ [])

abbrev pub refusal_at : Filed → LineCodes → ℕ → Option LineKey → Option Refusal
refusal_at f codes kwh None = Some UnknownCode
refusal_at f codes kwh (Some key) = key_refusal f codes kwh key

-- A result takes no contract, kind 3, as partner.
abbrev pub result_key : LineCodes → Option LineKey
result_key codes = cond (codes.kind == 3) None (line_key codes)

abbrev pub key_for : Figure → LineCodes → Option LineKey
key_for (Planned kwh) codes = line_key codes
key_for (Agreed kwh) codes = result_key codes

abbrev pub line_refusal : Filed → LineCodes → ℕ → Option Refusal
line_refusal f codes kwh = refusal_at f codes kwh (line_key codes)

abbrev pub result_refusal : Filed → LineCodes → ℕ → Option Refusal
result_refusal f codes kwh = refusal_at f codes kwh (result_key codes)

abbrev pub set_at : Filed → Figure → Option LineKey → Filed
set_at f figure None = f
set_at f figure (Some key) = figure_set f key figure

abbrev pub line_filed : Filed → LineCodes → ℕ → Filed
line_filed f codes kwh = set_at f (Planned kwh) (line_key codes)

abbrev pub result_filed : Filed → LineCodes → ℕ → Filed
result_filed f codes kwh = set_at f (Agreed kwh) (result_key codes)

-- place: a meter number and its owner.
abbrev pub place_refusal_for : Filed → ℕ → Option OwnerKind → ℕ → Option Refusal
place_refusal_for f meter None owner = Some UnknownCode
place_refusal_for f meter (Some kind) owner = first (
    (not (is_number meter && is_number owner), NumberOutOfRange)
    ∷ (not (has_owner f kind owner), UnknownRecord)
    ∷ (has_meter f meter, NumberTaken)
    ∷ (nat_le 512 (length f.places) || nat_le 64 (places_of f (record { kind = kind; number = owner })), Full)
    ∷ [])

abbrev pub place_refusal : Filed → ℕ → ℕ → ℕ → Option Refusal
place_refusal f meter kind owner = place_refusal_for f meter (owner_kind_of kind) owner

abbrev pub place_of : Filed → ℕ → Option OwnerKind → ℕ → Filed
place_of f meter None owner = f
place_of f meter (Some kind) owner = with_places f (f.places ++ record { meter = meter; owner = record { kind = kind; number = owner } } ∷ [])

abbrev pub place_filed : Filed → ℕ → ℕ → ℕ → Filed
place_filed f meter kind owner = place_of f meter (owner_kind_of kind) owner
