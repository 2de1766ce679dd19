mod Listed
mod Carried
mod Counted
