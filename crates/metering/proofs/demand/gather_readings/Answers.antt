use Rattle.std.proofs.Common.{length, sym, ap, ◌∙◌, arith, rules}
use Rattle.std.proofs.lemmas.List.{length_push}
use Rattle.tables.specs.Listed.{listed}
use Rattle.tables.proofs.Asking.{ok_or-Ok, ok_or-Err}
use Rattle.metering.proofs.Gathering.{behind_nothing, gather_more, gather_none, gather_all, sum-light}
use Rattle.metering.proofs.demand.gather_readings.Goals as goal

pub loop-meter-init : goal.loop-meter-init
loop-meter-init g c = search (rules, behind_nothing)

pub returns-in_err-kwh-clause-exact : goal.returns-in_err-kwh-clause-exact
returns-in_err-kwh-clause-exact g c =
    let told = ok_or-Err _ _ _ (sym c.ok_or.ensures.value ∙ c.in_err-kwh.was) in
    let none = gather_none (g.S.MeterSource.read c.args.source.now) c.args.meters.now c.loop-meter.meter-index (listed c.loop-meter.gathered) c.loop-meter-test.true (sym told.0 ∙ c.reading.ensures) c.loop-meter.invariant.1 in
    search rules

pub loop-meter-preserved : goal.loop-meter-preserved
loop-meter-preserved g c = (
  omega (arith, ap length c.push.ensures, length_push (listed c.loop-meter.gathered) c.from.result, c.loop-meter.invariant.0),
  gather_more (g.S.MeterSource.read c.args.source.now) c.args.meters.now c.loop-meter.meter-index (listed c.loop-meter.gathered) c.loop-meter-test.true
      c.in_ok-kwh.kwh c.from.result (listed c.push.new.self) (sym (ok_or-Ok _ _ _ (sym c.ok_or.ensures.value ∙ c.in_ok-kwh.was)) ∙ c.reading.ensures) c.from.ensures c.push.ensures c.loop-meter.invariant.1,
)

pub returns : goal.returns
returns g c =
    let read = g.S.MeterSource.read c.args.source.now in
    let laws = g.met.S.MeterSource in
    let all = gather_all read c.args.meters.now c.loop-meter.meter-index (listed c.loop-meter.gathered) c.loop-meter-test.false c.loop-meter.invariant.1 in
    record {
      exact = all;
      light = sum-light read g.S.MeterSource.largest (laws.bounded c.args.source.now) laws.small c.args.meters.now (listed c.loop-meter.gathered) all c.requires;
    }
