-- `paired` meets its contract: the lower pairings behind the ones that are left are gathered.
use mathlib.Core.Path.{◌∙◌}
use Rattle.gathering.proofs.Gathering.{gathers_none, gathers_fits, gathers_next, gathers_all}
use Rattle.gathering.proofs.paired.Goals as goal

pub loop-c-init : goal.loop-c-init
loop-c-init c = gathers_none c.args.by c.args.lower.now c.requires.0 (cc) c.empty-gather.ensures.value

pub with-gather-requires : goal.with-gather-requires
with-gather-requires c = gathers_fits c.args.by c.args.lower.now c.loop-c.invariant _ c.in-Some.c.now c.in-Some.ensures.steps c.requires.1

pub loop-c-preserved : goal.loop-c-preserved
loop-c-preserved c = gathers_next c.args.by c.args.lower.now c.loop-c.invariant _ c.in-Some.c.now c.in-Some.ensures.steps c.with-gather.ensures.value c.with-gather.ensures.small

pub returns : goal.returns
returns c = c.finish.ensures ∙ gathers_all c.args.by c.args.lower.now _ c.loop-c.invariant c.in-None.ensures.steps.0
