use Rattle.fs_tools.proofs.walks.walk_with.Goals as goal

pub returns-clause-decided : goal.returns-clause-decided
returns-clause-decided g c told = c.look_below.ensures.decided told (c.moment.ensures.well_formed told).tree

pub returns-clause-walked : goal.returns-clause-walked
returns-clause-walked g c told = c.look_below.ensures.walked told (c.moment.ensures.well_formed told).tree
