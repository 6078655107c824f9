use Rattle.std.proofs.Common.{Ok, Err}
use Rattle.diagram_books.proofs.table.Table.book.Goals as goal

pub returns-in-Ok : goal.returns-in-Ok
returns-in-Ok g c = (Ok tt, (c.in-Ok.ensures.asked, c.in-Ok.ensures.held))

pub returns-in-Err : goal.returns-in-Err
returns-in-Err g c = (Err c.in-Err.field-0, (c.in-Err.ensures.asked, c.nothing.ensures))
