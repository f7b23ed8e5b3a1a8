use Rattle.demangle_nodes_from_cells.proofs.tied.TiedBelow.name.Goals as goal

pub returns-clause-made : goal.returns-clause-made
returns-clause-made g c = c.requires.can.2.makes _ _ _ _ c.call_once.ensures

pub returns-clause-refused : goal.returns-clause-refused
returns-clause-refused g c = c.requires.can.2.refuses _ _ _ _ c.call_once.ensures
