use Rattle.std.proofs.Common.{rules}
use Rattle.std.proofs.lemmas.List.{length-map}
use Rattle.inventory.specs.Inventories.{length-rows_from}
use Rattle.inventory.proofs.InventoryBase.counts.Goals as goal

pub returns : goal.returns
returns c = simp (length-map, length-rows_from) (search rules)
