use Rattle.std.proofs.Common.{◌≡◌, ◌∙◌}
use Rattle.verify_packet.proofs.Asking.{parts_read, written}
use Rattle.verify_packet.proofs.challenges.challenge.Goals as goal

pub returns-clause-spelled : goal.returns-clause-spelled
returns-clause-spelled c =
    written c.args.router.now _ c.write_asked.new.out c.copy_from_slice.new.self c.write_asked.ensures.spelled
    (c.copy_from_slice.ensures.after ∙ c.router_tag.ensures)

pub returns-clause-read_back : goal.returns-clause-read_back
returns-clause-read_back c =
    parts_read c.args.router.now _ c.write_asked.new.out c.copy_from_slice.new.self c.write_asked.ensures.spelled
    c.write_asked.ensures.fits
