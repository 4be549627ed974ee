use Rattle.std.proofs.Common.{sym}
use Rattle.aip_core.proofs.Acting.{send_acts, raw_acts, restart_acts}
use Rattle.aip_core.proofs.host.act.Goals as goal

pub returns-in-Send-clause-does : goal.returns-in-Send-clause-does
returns-in-Send-clause-does c =
    send_acts c.args.directory.now c.args.flights.now c.args.now c.args.host.now c.send.new.host c.args.input.now c.in-Send.host c.in-Send.node c.in-Send.packet c.in-Send.body
    c.as_slice.result.now c.address_named.result c.send.result c.in-Send.is c.address_named.ensures c.as_slice.ensures c.send.ensures.does

pub returns-in-Raw-clause-does : goal.returns-in-Raw-clause-does
returns-in-Raw-clause-does c =
    raw_acts c.args.directory.now c.args.flights.now c.args.now c.args.host.now c.put.new.host c.args.input.now c.in-Raw.host c.in-Raw.bytes c.as_slice-in-Raw.result.now c.put.result
    c.in-Raw.is c.as_slice-in-Raw.ensures c.put.ensures.does

pub returns-in-Restart-clause-does : goal.returns-in-Restart-clause-does
returns-in-Restart-clause-does c =
    restart_acts c.args.directory.now c.args.flights.now c.args.now c.args.host.now c.restart.new.host c.args.input.now c.in-Restart.node c.restart.result c.in-Restart.is c.restart.ensures.does
