use Rattle.std.proofs.lemmas.List.{take_rest}
use Rattle.aip_io.proofs.LineFeeds.{found_at, none_found}
use Rattle.aip_io.proofs.lines.first_line_feed.Goals as goal

pub returns-in-Some : goal.returns-in-Some
returns-in-Some c =
    found_at c.args.bytes.now _ c.args.searched c.in-Some.behind (take_rest c.args.bytes.now c.args.searched) c.requires.none c.in-Some.ensures.0 c.in-Some.ensures.1

pub returns-in-None : goal.returns-in-None
returns-in-None c =
    none_found c.args.bytes.now _ c.args.searched (take_rest c.args.bytes.now c.args.searched) c.requires.none c.in-None.ensures
