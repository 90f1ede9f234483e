mod Totals
mod Steps
mod Serving
mod Gathering
mod Ending
