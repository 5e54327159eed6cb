mod Builders
mod Controls
mod Lines
mod Migrations
mod Runs
mod Subcommands
mod UnitsValues
mod Views
