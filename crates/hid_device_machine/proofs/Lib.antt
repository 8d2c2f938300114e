mod Alone
mod Calls
mod Last
mod Requests
mod Sessions
