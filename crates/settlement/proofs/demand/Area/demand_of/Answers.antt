use Rattle.std.proofs.Common.{◌≡◌, IsOk, sym, refl, ◌∙◌, subst, arith}
use Rattle.settlement.specs.Demand.{kwh_read, demand_by}
use Rattle.settlement.proofs.Metering.{demand-read, reads_small, demand-small}
use Rattle.settlement.proofs.demand.Area.demand_of.Goals as goal

pub unwrap-requires : goal.unwrap-requires
unwrap-requires g c =
    let area = c.args.self.now in
    let granted = demand-read (g.S.MeterSource.read area.source.now) c.args.owner area.places.now c.args.multiplier area.known _ _ c.metered_demand.ensures (c.as_slice.ensures ∙ c.meters_of-meters.ensures) in
    subst (λ r. IsOk r) (sym granted) refl

pub returns : goal.returns
returns g c =
    let area = c.args.self.now in
    let read = g.S.MeterSource.read area.source.now in
    let granted = demand-read read c.args.owner area.places.now c.args.multiplier area.known _ _ c.metered_demand.ensures (c.as_slice.ensures ∙ c.meters_of-meters.ensures) in
    let value : c.unwrap.result ≡ demand_by (kwh_read read) area.places.now c.args.multiplier c.args.owner = cc (granted, c.unwrap.ensures) in
    let small = reads_small read (λ m k e. omega (arith, g.met.S.MeterSource.bounded area.source.now m k e, g.met.S.MeterSource.small)) in
    record { value = value; within = omega (arith, value, demand-small (kwh_read read) small c.args.owner area.places.now c.args.multiplier (area.allowed c.args.owner) c.requires) }
