use Rattle.std.proofs.Common.{◌≡◌, None, Some}
use Rattle.nif_region.specs.Contents.{find}
use Rattle.nif_test_values.specs.Sample.{sample}
use Rattle.nif_test_values.proofs.stores.abandons_each_call.Given as goal

-- no tree is being built, and the first is as it was
abbrev pub invariant-loop-call : goal.invariant-loop-call
invariant-loop-call g l = (l.store.building ≡ None) × (find l.store.trees l.tree.run.key ≡ Some sample)
