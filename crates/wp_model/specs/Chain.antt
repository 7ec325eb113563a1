-- The items of a chain, the newest last, though it lies on top.
use Rattle.std.specs.Prelude.{List, [], ◌∷◌, ◌++◌}
use Rattle.wp_model.specs.declared.chain.Link.{Link}
use Rattle.wp_model.specs.declared.chain.Link.TheVariants.{End, More}

abbrev pub items_in : {T : Type 0} → Link T → List T
items_in End = []
items_in (More item below) = below.value ++ item ∷ []
