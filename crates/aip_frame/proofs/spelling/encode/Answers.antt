use Rattle.std.proofs.Common.{ap, ◌∙◌}
use Rattle.aip_frame.specs.Frame.{frame_of, Fits}
use Rattle.aip_frame.proofs.Frames.{read_back, joined}
use Rattle.aip_frame.proofs.spelling.encode.Goals as goal

pub returns-clause-spelled : goal.returns-clause-spelled
returns-clause-spelled c =
    c.from_vec.ensures
    ∙ joined c.args.frame.now _ _ _ _ _ _ c.as_slice-body.ensures c.in_ok-out.ensures.items c.in_ok-push_head.ensures.spelled
    c.in_ok-push_address.ensures.spelled c.in_ok-push_address-2.ensures.spelled c.in_ok-push_body.ensures

pub returns-clause-read_back : goal.returns-clause-read_back
returns-clause-read_back c =
    let sized : Fits c.args.frame.now = record {
      hop = c.push_head.ensures.hop;
      packet = c.push_head.ensures.packet;
      to_ad = c.push_address.ensures.ad;
      to_eid = c.push_address.ensures.eid;
      from_ad = c.push_address-2.ensures.ad;
      from_eid = c.push_address-2.ensures.eid;
      body = c.requires.body;
      challenge = c.requires.challenge;
    } in
    ap frame_of (returns-clause-spelled c) ∙ read_back c.args.frame.now sized
