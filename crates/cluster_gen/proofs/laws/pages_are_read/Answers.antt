use Rattle.std.proofs.Common.{refl}
use Rattle.heap_page.specs.Numbers.{u16_at, u32_at}
use Rattle.cluster_gen.specs.Numbers.{zeros}
use Rattle.cluster_gen.specs.Page.{row, rows_below, line_pointers, header, page}
use Rattle.cluster_gen.proofs.laws.pages_are_read.Goals as goal

pub returns-clause-pages : goal.returns-clause-pages
unfolding u16_at u32_at zeros row rows_below line_pointers header page
returns-clause-pages c = refl

pub returns-clause-lines : goal.returns-clause-lines
unfolding u16_at u32_at zeros row rows_below line_pointers header page
returns-clause-lines c = refl
